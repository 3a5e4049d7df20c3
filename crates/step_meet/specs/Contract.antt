-- What a step that comes to another's record asks of the lent tables and how it leaves them, as the contracts cite it.
use Rattle.std.specs.Prelude.{ℕ, suc, ◌+◌, ◌%◌, ◌<◌, ◌≤◌, ◌≡◌, ◌≢◌, true, List, map, length, get_or, take, drop}
use Rattle.memory.specs.declared.Sizes.{Sizes}
use Rattle.memory.specs.declared.Phase.TheVariants.{Taking}
use Rattle.memory.specs.declared.Place.{Place}
use Rattle.memory.specs.declared.Held.TheVariants.{Owner}
use Rattle.memory.specs.declared.Entry.{Entry}
use Rattle.memory.specs.Pieces.{memory, entry_of, position_of, held, place, run_start, most_tasks, most_records, set_place}
use Rattle.memory.specs.Logical.{index_on, blank}
use Rattle.memory.specs.Sound.{sound}
use Rattle.memory.specs.Step.{clash, meet}
use Rattle.step_meet.specs.declared.Coming.{Coming}

-- the owner of a record is met, and is moved on with those who end with it
abbrev pub Clashed : ℕ → (places places' : List (List ℕ)) → Type 0
Clashed owner places places' =
    (z : Sizes) (words records : List ℕ) (entries : List (List ℕ)) → z.tasks ≡ length places
    → memory words records places' entries ≡ clash z (memory words records places entries) owner

-- the entries of an owner that has so many
abbrev pub owned_by : Sizes → ℕ → List (List ℕ) → ℕ → List Entry
owned_by z count entries owner = map entry_of (take count (drop (run_start z owner) entries))

-- one of them is on the record
pub record MayLook (z : Sizes) (count : ℕ) (entries : List (List ℕ)) (owner r : ℕ) : Type 0 where
  pub task_in : owner < most_tasks
  pub some_records : 0 < z.records
  pub few_records : z.records ≤ most_records
  pub record_in : r < z.records
  pub fits : run_start z owner + count ≤ length entries
  pub there : index_on z.records r (owned_by z count entries owner) < length (owned_by z count entries owner)

abbrev pub Seen : Sizes → ℕ → List (List ℕ) → ℕ → ℕ → ℕ → Type 0
Seen z count entries owner r v =
    let es = owned_by z count entries owner in
    v ≡ (get_or es (index_on z.records r es) blank).old.version

-- a task comes to a record that the owner has
pub record MayCome (c : Coming) (z : Sizes) (places entries : List (List ℕ)) (owner : ℕ) : Type 0 where
  pub words : List ℕ
  pub records : List ℕ
  pub ok : sound z (memory words records places entries) ≡ true
  pub owned : held (memory words records places entries) (c.entry.address % z.records) ≡ Owner owner
  pub below : c.i < c.place.count

-- its place afterwards, and those of others, as the definition has them once it is stored: of any task but the owner that is in its
-- place and takes its entry
pub record Came (c : Coming) (z : Sizes) (places entries : List (List ℕ)) (owner : ℕ) (q' : Place) (places' : List (List ℕ)) : Type 0 where
  pub leaves : (words records : List ℕ) (t : ℕ) → let m = memory words records places entries in
      sound z m ≡ true → t < z.tasks → t ≢ owner → c.place ≡ place m t → c.place.phase ≡ Taking c.goal c.i
      → set_place (memory words records places' entries) t q' ≡ meet z m t c.goal c.i c.entry owner
  pub same_count : q'.count ≡ c.place.count
  pub near : position_of q'.phase ≤ suc c.i

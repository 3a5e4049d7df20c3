-- §15.4: the memory is the list of committed transactions, played one at a time in the order of their deciding steps.
use Rattle.std.specs.Prelude.{ℕ, ◌%◌, ◌<◌, ◌≡◌, ◌≢◌, List, ◌∷◌, true}
use Rattle.memory.specs.Pieces.{Sizes, Commit, Taking, Asleep, Memory, place}
use Rattle.memory.specs.Logical.{logical}
use Rattle.memory.specs.Sound.{sound}
use Rattle.memory.specs.Requests.{open_board, look, looked}
use Rattle.memory.specs.Calls.{Call, SP, call}
use Rattle.memory.specs.History.{◌∈◌, Op, met, board, version, AllFind, zeros, Notes, listed, Event, Scene, asks, reached}
use Rattle.memory.specs.Answers.{phase}

-- §15.1: of every scene, that is, whatever is called after an opening that answered 0
abbrev pub Always : (Scene → Type 0) → Type 0
Always P = (z : Sizes) (v : ℕ) (m : Memory) → (open_board z v m).number ≡ 0 → (es : List Event) → P (reached z v m es)

abbrev pub Sleeps : Scene → ℕ → Type 0
Sleeps s t = phase s.memory t ≡ Asleep

-- the logical value and version of an address in a scene
abbrev pub value : Scene → ℕ → ℕ
value s a = (logical s.sizes s.memory a).value

abbrev pub stamp : Scene → ℕ → ℕ
stamp s a = (logical s.sizes s.memory a).version

-- §15.7 to §15.9. Each listed transaction, at its turn on the board left by those before it, finds what it took. The board that all
-- leave is the logical board. An address's version has gone up once for each of them that wrote to its record. And while a task
-- sleeps, what it used is as it first saw it, value and version.
pub record Serial (s : Scene) : Type 0 where
  pub finds : AllFind zeros (listed s.notes)
  pub leaves : (a : ℕ) → value s a ≡ board zeros (listed s.notes) a
  pub counts : (a : ℕ) → stamp s a ≡ version s.sizes.records s.first zeros (listed s.notes) (a % s.sizes.records)
  pub sleeps : (t : ℕ) → Sleeps s t → (a v w : ℕ) → met a v w ∈ s.notes.logs t → (value s a ≡ v) × (stamp s a ≡ w)

abbrev pub RunsAreSerial : Type 0
RunsAreSerial = Always Serial

-- the same over the public look-up, which answers 0 for every address of a scene
abbrev pub LookedUp : Scene → Type 0
LookedUp s = (a : ℕ) → a < s.sizes.words → look s.sizes s.memory a
    ≡ looked 0 (board zeros (listed s.notes) a) (version s.sizes.records s.first zeros (listed s.notes) (a % s.sizes.records))

abbrev pub LooksAreSerial : Type 0
LooksAreSerial = Always LookedUp

-- Who is in the list -------------------------------------------------------------------------------------------------------------

-- §15.6. Of a way to make a list of a run's notes: a step answers 21 only where the transaction's log is in the list. The deciding
-- step of a commit puts it there, whatever it read or wrote, and no other call changes the list.
pub record Listed (lists : Notes → List (List Op)) (s : Scene) : Type 0 where
  pub committed : (t : ℕ) → (call s.sizes s.memory (SP t)).number ≡ 21 → s.notes.logs t ∈ lists s.notes
  pub decided : (t : ℕ) → t < s.sizes.tasks → phase s.memory t ≡ Taking Commit (place s.memory t).count
      → lists (asks s (SP t)).notes ≡ s.notes.logs t ∷ lists s.notes
  pub otherwise : (c : Call) → ((t : ℕ) → c ≡ SP t → phase s.memory t ≢ Taking Commit (place s.memory t).count)
      → lists (asks s c).notes ≡ lists s.notes

abbrev pub CommittedIsListed : (Notes → List (List Op)) → Type 0
CommittedIsListed lists = Always (Listed lists)

-- A scene is sound -----------------------------------------------------------------------------------------------------------------

-- so no call after an opening answers 1
abbrev pub IsSound : Scene → Type 0
IsSound s = sound s.sizes s.memory ≡ true

abbrev pub ReachedIsSound : Type 0
ReachedIsSound = Always IsSound

-- What tables of the sizes asked hold before the opening has no part in the text.
use Rattle.std.specs.Prelude.{if◌then◌else◌}
use Prim.Native.Nat.{ℕ, ◌*◌, ◌≤◌, min}
use mathlib.Core.Path.{◌≡◌, refl, sym, ap, ◌∙◌}
use mathlib.Core.List.{List, []}
use mathlib.Core.Bool.{Bool, true, false, not, ◌&&◌, false≢true}
use lib.ListN.{length, take, length-replicate}
use lib.Seq.{length-take-le}
use native.Mathlib.Omega.{arith}
use borrow.Author.Tests.{eq-eqb, leb-true}
use Rattle.memory.specs.declared.Sizes.{Sizes}
use Rattle.memory.specs.Pieces.{Memory, memory, limit, run_start, most_words, most_records, most_tasks, top_version}
use Rattle.memory.specs.Sound.{within, sizes_ok, lengths_ok}
use Rattle.memory.specs.Numbers.{Reply, reply, refused}
use Rattle.memory.specs.Requests.{opened, open_board}
use Rattle.memory.proofs.Tools.{and_0, and_1, and_make}
use Rattle.memory.proofs.Limits.{run_last, runs_most}
use Rattle.session_split.specs.Session.{Session}
use Rattle.session_split.proofs.Cases.{session_cases}
use Rattle.session_text.specs.Text.{line}
use Rattle.session_print.specs.Contract.{Roomy}
use Rattle.session_ask.specs.Asking.{requested}
use Rattle.session_run.specs.Run.{runs, after, stops, run, run_on}
use Rattle.session_print.specs.Print.{printed}

-- tables that are long enough wherever the sizes are in range
abbrev pub Serves : Sizes → Memory → Type 0
Serves z m = sizes_ok z ≡ true → lengths_ok z m ≡ true

pub lent_serves : (z : Sizes) (v : ℕ) → lengths_ok z (opened z v) ≡ true
unfolding lengths_ok opened
lent_serves z v =
    and_make (and_make (and_make (eq-eqb _ _ (length-replicate z.words 0)) (eq-eqb _ _ (length-replicate z.records v)))
    (eq-eqb _ _ (length-replicate z.tasks _))) (eq-eqb _ _ (length-replicate (limit z * z.tasks) _))

-- a roomy table has the runs of so many tasks
pub run_fits : (z : Sizes) (t e : ℕ) {ws rs ps es : ℕ} → Roomy ws rs ps es → t ≤ most_tasks → e ≡ run_start z t → e ≤ es
run_fits z t e room few is = omega (arith, runs_most z t few, room.for_entries, is)

-- the parts of roomy tables that the sizes ask
pub parts_serve : (z : Sizes) (ws rs : List ℕ) (ps es : List (List ℕ)) (w r t e : ℕ) → Roomy (length ws) (length rs) (length ps) (length es)
    → w ≡ min z.words most_words → r ≡ min z.records most_records → t ≡ min z.tasks most_tasks → e ≡ run_start z t
    → Serves z (memory (take w ws) (take r rs) (take t ps) (take e es))
unfolding sizes_ok within lengths_ok
parts_serve z ws rs ps es w r t e room hw hr ht he ok =
    let words : w ≡ z.words = omega (arith, hw, leb-true z.words most_words (search (and_0, and_1))) in
    let records : r ≡ z.records = omega (arith, hr, leb-true z.records most_records (search (and_0, and_1))) in
    let tasks : t ≡ z.tasks = omega (arith, ht, leb-true z.tasks most_tasks (search (and_0, and_1))) in
    and_make (and_make (and_make (eq-eqb _ _ (length-take-le w ws (omega (arith, room.for_words, hw)) ∙ words))
    (eq-eqb _ _ (length-take-le r rs (omega (arith, room.for_records, hr)) ∙ records)))
    (eq-eqb _ _ (length-take-le t ps (omega (arith, room.for_tasks, ht)) ∙ tasks)))
    (eq-eqb _ _ (length-take-le e es (run_fits z t e room (omega arith) he) ∙ he ∙ ap (run_start z) tasks ∙ sym (run_last z)))

-- an opening of them: refused with 2, or done
module _ (z : Sizes) (v : ℕ) (m : Memory) (serves : Serves z m) where
  pub opening_cases : (P : Reply → Type 0) → ((sizes_ok z && within 1 top_version v) ≡ false → P (refused 2 m))
      → ((sizes_ok z && within 1 top_version v) ≡ true → P (reply 0 0 (opened z v))) → P (open_board z v m)
  unfolding open_board
  opening_cases P bad good = go (sizes_ok z && within 1 top_version v) refl
    where
      go : (b : Bool) → (sizes_ok z && within 1 top_version v) ≡ b
          → P (if not b then refused 2 m else if not (lengths_ok z m) then refused 1 m else reply 0 0 (opened z v))
      go false e = bad e
      go true e = rw (serves (and_0 (sizes_ok z) (within 1 top_version v) e)) (good e)

-- the text of a session, on any such tables
pub any_tables : (z : Sizes) (v : ℕ) (m n : Memory) → Serves z m → Serves z n → (bytes : List ℕ)
    → printed z v (run_on z v m bytes) ≡ printed z v (run_on z v n bytes)
unfolding run_on run requested printed
any_tables z v m n p q bytes =
    session_cases bytes (λ s. printed z v (run z v 0 m s.pieces s.ended) ≡ printed z v (run z v 0 n s.pieces s.ended))
    (λ r l. refl)
    (λ rest. opening_cases z v m p (λ r. opens rest r ≡ opens rest (open_board z v n))
    (λ bad. opening_cases z v n q (λ r. opens rest (refused 2 m) ≡ opens rest r) (λ bad'. refl) (λ good. absurd (false≢true (sym bad ∙ good))))
    (λ good. opening_cases z v n q (λ r. opens rest (reply 0 0 (opened z v)) ≡ opens rest r) (λ bad. absurd (false≢true (sym bad ∙ good))) (λ good'. refl)))
  where
    -- the text after an opening that was answered so
    opens : Session → Reply → List ℕ
    opens rest r =
        printed z v
        (after (line 0 r.number r.value) (if stops r.number then runs [] false r.after else run z v 1 r.after rest.pieces rest.ended))

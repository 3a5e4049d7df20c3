-- What is left to run of a session from one of its places on: one record more, or the end.
use Rattle.std.specs.Prelude.{Some, Ok, if◌then◌else◌}
use Prim.Native.Nat.{ℕ, suc, ◌+◌, ◌<◌}
use mathlib.Core.Path.{◌≡◌}
use mathlib.Core.List.{List, []}
use mathlib.Core.Bool.{false}
use lib.Dec.{eqb}
use lib.ListN.{length, drop}
use Rattle.memory.specs.declared.Sizes.{Sizes}
use Rattle.memory.specs.Pieces.{Memory}
use Rattle.memory.specs.Numbers.{Reply}
use Rattle.session_marks.specs.declared.Kind.{Kind}
use Rattle.session_split.specs.Session.{Split, body, record_length, split}
use Rattle.session_split.proofs.Rest as rest
use Rattle.session_split.proofs.Rest.{rest_of, one_split}
use Rattle.session_text.specs.Text.{line}
use Rattle.session_ask.specs.Asking.{requested}
use Rattle.session_end.specs.Run.{Run, runs, after, over, stops}
use Rattle.session_run.specs.Run.{run, run_on}

-- the run of the records from a place on, at an index
unfoldable pub rest_run : Sizes → ℕ → List ℕ → Memory → ℕ → ℕ → Run
rest_run z v s m i from = run z v i m (rest_of s i from).pieces (rest_of s i from).ended

module _ (z : Sizes) (v : ℕ) (s : List ℕ) where
  pub all_of_it : (m : Memory) → rest_run z v s m 0 0 ≡ run_on z v m s
  unfolding rest_run run_on
  all_of_it m = rw (rest.all_of_it s)

  pub ends_here : (m : Memory) (i from : ℕ) (e : Split) → split (eqb i 0) (drop from s) ≡ e → ((k : Kind) → e ≡ Ok (Some k) → ⊥)
      → rest_run z v s m i from ≡ over i m e
  unfolding rest_run run
  ends_here m i from e q none = rw (rest.ends_here s i from e q none)

  -- the line of a record, and the rest unless it stops the player
  abbrev pub on_from : ℕ → ℕ → Kind → Reply → Run
  on_from i from k r =
      after (line i r.number r.value) (if stops r.number then runs [] false r.after else rest_run z v s r.after (suc i) (from + record_length k))

  pub one_more : (m : Memory) (i from : ℕ) (k : Kind) → i < length s → split (eqb i 0) (drop from s) ≡ Ok (Some k)
      → rest_run z v s m i from ≡ on_from i from k (requested z v m k (body k (drop from s)))
  unfolding rest_run run
  one_more m i from k h q = rw (one_split s i from k h q)

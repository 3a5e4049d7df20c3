-- How splitting ends, told by the case that the code found.
use Rattle.std.specs.Prelude.{Some, None, Ok, Err}
use Prim.Native.Nat.{ℕ}
use mathlib.Core.Path.{◌≡◌, refl}
use mathlib.Core.List.{[]}
use mathlib.Core.Bool.{true}
use Rattle.memory.specs.Pieces.{Memory}
use Rattle.session_split.specs.declared.Fault.{Fault}
use Rattle.session_split.specs.Session.{Split}
use Rattle.session_end.specs.Run.{runs, over}

-- no refusal: nothing is printed
pub not-refused : (i : ℕ) (m : Memory) (e : Split) → ((f : Fault) → e ≡ Err f → ⊥) → over i m e ≡ runs [] true m
not-refused i m (Ok (Some k)) h = refl
not-refused i m (Err f) h = absurd (h f refl)
not-refused i m (Ok None) h = refl

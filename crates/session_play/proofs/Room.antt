-- Lent tables of the largest sizes, and what the buffer holds after a session was played.
use Rattle.std.specs.Prelude.{Some, None}
use Prim.Native.Nat.{ℕ}
use mathlib.Core.Path.{◌≡◌, refl, sym, ◌∙◌}
use mathlib.Core.List.{List}
use mathlib.Core.Bool.{Bool, true, false}
use lib.ListN.{length}
use native.Mathlib.Omega.{arith}
use borrow.Author.Tests.{leb-true, le-leb}
use Rattle.memory.specs.Pieces.{Memory}
use Rattle.memory.proofs.Tools.{and_0, and_1, and_make}
use Rattle.session_text.specs.Text.{Put, written}
use Rattle.session_text.proofs.Laws.{stored_front}
use Rattle.session_print.specs.Print.{text}
use Rattle.session_print.specs.Contract.{Roomy}
use Rattle.session_play.specs.Contract.{roomy, playing}

abbrev RoomIn : Memory → Type 0
RoomIn m = Roomy (length m.words) (length m.records) (length m.places) (length m.entries)

is-roomy : (m : Memory) → RoomIn m → roomy m ≡ true
unfolding roomy
is-roomy m h =
    and_make (and_make (and_make (le-leb _ _ h.for_words) (le-leb _ _ h.for_records)) (le-leb _ _ h.for_tasks)) (le-leb _ _ h.for_entries)

has_room : (m : Memory) → roomy m ≡ true → RoomIn m
unfolding roomy
has_room m e =
    record {
      for_words = leb-true _ _ (search (and_0, and_1));
      for_records = leb-true _ _ (search (and_0, and_1));
      for_tasks = leb-true _ _ (search (and_0, and_1));
      for_entries = leb-true _ _ (search (and_0, and_1));
    }

-- a test that would be absurd
untrue : (b : Bool) → (b ≡ true → ⊥) → b ≡ false
untrue true h = absurd (h refl)
untrue false h = refl

module _ (m : Memory) (s out : List ℕ) where
  -- a table is too short
  pub no_room : (RoomIn m → ⊥) → playing m s out ≡ (None, out)
  unfolding playing
  no_room h = rw (untrue (roomy m) (λ q. h (has_room m q)))

  -- the text is put from the first byte of the buffer on
  pub whole-text : RoomIn m → {most n : ℕ} {left : List ℕ} → Put most out 0 (text s) left n → playing m s out ≡ (Some n, left)
  unfolding playing
  whole-text room {n = n} {left = left} p =
      let size : length (text s) ≡ n = omega (arith, p.after) in
      let holds : written out (text s) ≡ left = sym (p.holds ∙ stored_front out (text s)) in
      rw (is-roomy m room) cc

-- A run of a session under way: what was printed, and what is left.
use Rattle.std.specs.Prelude.{Some, Ok}
use Prim.Native.Nat.{ℕ, suc, ◌+◌, ◌*◌, ◌≤◌}
use mathlib.Core.Path.{◌≡◌, refl, sym, ap, ◌∙◌, subst}
use mathlib.Core.List.{List, [], ◌++◌, append_assoc, append-nil}
use mathlib.Core.Bool.{true, false}
use lib.Dec.{eqb}
use lib.ListN.{length, drop}
use native.Mathlib.Numerals.{add-one}
use native.Mathlib.Omega.{arith}
use Rattle.memory.specs.declared.Sizes.{Sizes}
use Rattle.memory.specs.Pieces.{Memory}
use Rattle.memory.specs.Numbers.{reply}
use Rattle.session_marks.specs.declared.Kind.{Kind}
use Rattle.session_split.specs.Session.{Split, most_bytes, body, record_length, split}
use Rattle.session_split.proofs.Rest.{room}
use Rattle.session_text.specs.Text.{line}
use Rattle.session_text.specs.declared.Out.{Out}
use Rattle.session_text.specs.Out.{Puts}
use Rattle.session_text.proofs.Laws.{follow, put_none, wider}
use Rattle.session_ask.specs.Asking.{requested}
use Rattle.session_end.specs.declared.Ran.{Ran}
use Rattle.session_end.specs.declared.Ran.TheVariants.{Stopped}
use Rattle.session_end.specs.Run.{Run, runs, after, over, stops}
use Rattle.session_end.specs.Contract.{Runs, line_room}
use Rattle.session_run.specs.Run.{run_on}
use Rattle.session_run.specs.Contract.{records_room}
use Rattle.session_run.proofs.Turns.{rest_run, on_from, all_of_it, ends_here, one_more}

after-after : (k l : List ℕ) (r : Run) → after (k ++ l) r ≡ after k (after l r)
after-after k l r = ap (λ (x : List ℕ). runs x r.whole r.board) (append_assoc k l r.lines)

module _ (s : List ℕ) (z : Sizes) (v : ℕ) (m₀ : Memory) (out₀ : Out) where
  pub record Under (m : Memory) (out : Out) (from i : ℕ) : Type 0 where
    pub printed : List ℕ
    pub put : Puts (line_room * i) out₀ out printed
    pub goes : after printed (rest_run z v s m i from) ≡ run_on z v m₀ s
    pub behind : i ≤ from
    pub inside : from ≤ length s

  -- what was printed and what comes after it, as one
  joined : {i : ℕ} {printed : List ℕ} {out left : Out} {r : Run} {ran : Ran} {m : Memory} → i ≤ most_bytes
      → Puts (line_room * i) out₀ out printed → Runs line_room r out left ran m → Runs records_room (after printed r) out₀ left ran m
  joined few p q = record { lines = wider (omega arith) (follow p q.lines); whole = q.whole; board = q.board }

module _ (s : List ℕ) (z : Sizes) (v : ℕ) (m₀ : Memory) (out₀ : Out) where
  pub begin : Under s z v m₀ out₀ m₀ out₀ 0 0
  begin = record { printed = []; put = put_none 0 out₀; goes = all_of_it z v s m₀; behind = omega arith; inside = omega arith }

  module _ (m : Memory) (out : Out) (from i : ℕ) (u : Under s z v m₀ out₀ m out from i) (short : length s ≤ most_bytes) where
    -- no record is split off
    pub finish : {e : Split} {left : Out} {ran : Ran} → split (eqb i 0) (drop from s) ≡ e → ((k : Kind) → e ≡ Ok (Some k) → ⊥)
        → Runs line_room (over i m e) out left ran m → Runs records_room (run_on z v m₀ s) out₀ left ran m
    finish {e} {left} {ran} q none r =
        subst (λ (t : Run). Runs records_room t out₀ left ran m) (ap (after u.printed) (sym (ends_here z v s m i from e q none)) ∙ u.goes)
        (joined s z v m₀ out₀ (omega (arith, u.behind, u.inside)) u.put r)

    -- a record is split off and asked
    module _ (k : Kind) (is : split (eqb i 0) (drop from s) ≡ Ok (Some k)) (b : List ℕ) (its : b ≡ body k (drop from s))
        (n value : ℕ) (m' : Memory) (asks : reply n value m' ≡ requested z v m k b) (left : Out) (puts : Puts line_room out left (line i n value)) where
      unfolds : rest_run z v s m i from ≡ on_from z v s i from k (reply n value m')
      unfolds = one_more z v s m i from k (omega (arith, room s from i k is, u.behind)) is ∙ ap (on_from z v s i from k) (ap (requested z v m k) (sym its) ∙ sym asks)

      pub halt : stops n ≡ true → Runs records_room (run_on z v m₀ s) out₀ left Stopped m'
      halt e =
          subst (λ (t : Run). Runs records_room t out₀ left Stopped m') (ap (after u.printed) (sym (unfolds ∙ stopped)) ∙ u.goes)
          (joined s z v m₀ out₀ (omega (arith, u.behind, u.inside)) u.put (record { lines = rw append-nil puts; whole = refl; board = refl }))
        where
          stopped : on_from z v s i from k (reply n value m') ≡ after (line i n value) (runs [] false m')
          stopped = rw e

      pub turn : stops n ≡ false → Under s z v m₀ out₀ m' left (from + record_length k) (i + 1)
      turn e =
          record {
            printed = u.printed ++ line i n value;
            put = wider (omega arith) (follow u.put puts);
            goes = rw (add-one i) (after-after u.printed (line i n value) rest ∙ ap (after u.printed) (sym (unfolds ∙ went)) ∙ u.goes);
            behind = omega (arith, u.behind);
            inside = room s from i k is;
          }
        where
          rest : Run
          rest = rest_run z v s m' (suc i) (from + record_length k)

          went : on_from z v s i from k (reply n value m') ≡ after (line i n value) rest
          went = rw e

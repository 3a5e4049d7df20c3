-- The lines of a run and of the board are the text.
use Rattle.std.specs.Prelude.{Some, None, Ok, Err}
use Prim.Native.Nat.{ℕ, ◌+◌, ◌≤◌}
use mathlib.Core.Path.{◌≡◌, refl, sym, ap, ◌∙◌, subst}
use mathlib.Core.List.{List, append-nil}
use mathlib.Core.Bool.{true, false, false≢true}
use lib.ListN.{length}
use borrow.Author.Tests.{ltb-false}
use Rattle.memory.specs.declared.Sizes.{Sizes}
use Rattle.memory.specs.Pieces.{Memory}
use Rattle.session_marks.specs.declared.Kind.{Kind}
use Rattle.session_fields.specs.Fields as fields
use Rattle.session_split.specs.Session as file
use Rattle.session_split.specs.Session.{Split, most_bytes, split}
use Rattle.session_split.proofs.Cases.{split_cases, there, first_opens}
use Rattle.session_text.specs.declared.Out.{Out}
use Rattle.session_text.specs.Out.{Puts}
use Rattle.session_text.proofs.Laws.{follow, wider}
use Rattle.session_ask.specs.Asking.{sizes_of}
use Rattle.session_show.specs.Showing.{word_lines}
use Rattle.session_run.specs.Run.{Run, over, run_on}
use Rattle.session_print.specs.Print.{sizes_asked, first_asked, lent, printed, text}
use Rattle.session_end.specs.declared.Ran.{Ran}
use Rattle.session_end.specs.Run.{is_whole}
use Rattle.session_end.specs.Contract.{Runs}
use Rattle.session_run.proofs.Turns.{all_of_it, ends_here}
use Rattle.session_print.proofs.Lent.{Serves, lent_serves, any_tables}

-- A run, and the board after it if no record stopped the player.
module _ {r : Run} {out mid : Out} {ran : Ran} {m : Memory} {most : ℕ} (z : Sizes) (v : ℕ) (q : Runs most r out mid ran m) where
  pub with_board : {k enough : ℕ} {left : Out} → most + k ≤ enough → is_whole ran ≡ true → Puts k mid left (word_lines z v m z.words)
      → Puts enough out left (printed z v r)
  unfolding printed
  with_board h e p = rw (sym q.whole ∙ e, ← q.board) (wider h (follow q.lines p))

  pub without_board : {enough : ℕ} → most ≤ enough → is_whole ran ≡ false → Puts enough out mid (printed z v r)
  unfolding printed
  without_board h e = rw (sym q.whole ∙ e, append-nil) (wider h q.lines)

-- A session whose first record is refused: its one line.
never_ends : (s : List ℕ) → split true s ≡ Ok None → ⊥
never_ends s =
    split_cases true s (λ e. e ≡ Ok None → ⊥)
    (λ f q. cc)
    (λ later none q. absurd (false≢true (sym later)))
    (λ k is-there q. cc)

pub refused-text : (s : List ℕ) (e : Split) → split true s ≡ e → ((k : Kind) → e ≡ Ok (Some k) → ⊥) → {most enough : ℕ} {out left : Out} {ran : Ran}
    → ((m : Memory) → Runs most (over 0 m e) out left ran m) → most ≤ enough → Puts enough out left (text s)
unfolding text
refused-text s (Ok (Some k)) is none p h = absurd (none k refl)
refused-text s (Ok None) is none p h = absurd (never_ends s is)
refused-text s (Err f) is none p h =
    let z = sizes_asked s in
    let v = first_asked s in
    rw (sym (all_of_it z v s (lent z)) ∙ ends_here z v s (lent z) 0 0 (Err f) is none) (without_board z v (p (lent z)) h (p (lent z)).whole)

-- A session whose first record opens: its text on any tables of the sizes asked.
pub text_on : (s : List ℕ) (k : Kind) (z : Sizes) (v : ℕ) (m : Memory) → split true s ≡ Ok (Some k) → z ≡ sizes_of (file.body k s) → v ≡ fields.first_version (file.body k s)
    → Serves z m → printed z v (run_on z v m s) ≡ text s
unfolding text sizes_asked first_asked
text_on s k z v m is zs vs serves =
    let opens = first_opens k (there true s k is).placed in
    let zz : z ≡ sizes_asked s = zs ∙ ap (λ (j : Kind). sizes_of (file.body j s)) opens in
    let vv : v ≡ first_asked s = vs ∙ ap (λ (j : Kind). fields.first_version (file.body j s)) opens in
    any_tables z v m (lent z) serves (λ ok. lent_serves z 0) s ∙ rw (zz, vv)

pub on_tables : (s : List ℕ) (k : Kind) (z : Sizes) (v : ℕ) (m : Memory) → split true s ≡ Ok (Some k) → z ≡ sizes_of (file.body k s) → v ≡ fields.first_version (file.body k s)
    → Serves z m → {most : ℕ} {out left : Out} → Puts most out left (printed z v (run_on z v m s)) → Puts most out left (text s)
on_tables s k z v m is zs vs serves {most} {out} {left} p = subst (λ (t : List ℕ). Puts most out left t) (text_on s k z v m is zs vs serves) p

pub short_enough : (s : List ℕ) (k : Kind) → split true s ≡ Ok (Some k) → length s ≤ most_bytes
short_enough s k is = ltb-false most_bytes (length s) (there true s k is).fits

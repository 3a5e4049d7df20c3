-- What was read in one turn stands after what was read before, and both are what the input lost.
use Rattle.std.proofs.Common.{◌≡◌, ℕ, ◌+◌, ◌-◌, ◌≤◌, List, ◌++◌, rules, length, take, sym, ap, ◌∙◌, subst, length-take-le}
use Rattle.std.specs.Io.KnownBytes.{Consumes}
use Rattle.std.proofs.KnownBytes.{Consumes-trans}
use Rattle.std.proofs.Math.Seq.{take-append-add}
use Rattle.std.proofs.lemmas.List.{take-append-le}
use borrow.Rule.Slice.PartMut.{put_mid, post_of}
use Rattle.program_input.proofs.read_full.Goals as goal

read_so_far : (a k n : ℕ) (xs ys : List ℕ) → a ≤ length xs → n ≤ length ys → take a xs ++ take n ys ≡ take (a + n) (put_mid a k xs ys)
read_so_far a k n xs ys within fits =
    let after = post_of a k xs in
    sym (subst (λ m. take (m + n) (put_mid a k xs ys) ≡ take a xs ++ take n (ys ++ after)) (length-take-le a xs within) (take-append-add (take a xs) (ys ++ after) n) ∙ ap (λ l. take a xs ++ l) (take-append-le n ys after fits))

pub loop-done-preserved : goal.loop-done-preserved
loop-done-preserved g c =
    let joined = read_so_far _ (length c.loop-done.buffer - c.loop-done.done) c.in_ok-got.got c.loop-done.buffer c.read.new.buf c.loop-done.invariant.0 c.in_ok-got.ensures.bound.0 in
    (search rules, search rules, subst (Consumes _ _) joined (Consumes-trans _ _ _ _ _ c.loop-done.invariant.2 c.in_ok-got.ensures.bytes.0))

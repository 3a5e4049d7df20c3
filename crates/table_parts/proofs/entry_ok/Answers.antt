-- An entry's tests, number by number.
use Rattle.std.proofs.Common.{◌≡◌, ℕ, suc, ◌+◌, ◌-◌, ◌%◌, ◌<◌, ◌≤◌, Bool, true, false, ◌||◌, eqb, leb, get_or, sym, refl, ⊎_elim, arith, le-ltb, lt-ltb, eq-eqb, ne_eqb, leb-false, leb-true}
use Rattle.memory.specs.Pieces.{entry_of, top_version}
use Rattle.memory.specs.Sound.{within, entry_ok}
use Rattle.memory.proofs.Tools.{same?, or_right_make, within_of}
use Rattle.table_parts.proofs.Tests.{refused, passed}
use Rattle.table_parts.proofs.entry_ok.Goals.{Else-not-in_range, Else-not-in_range-2}
use Rattle.table_parts.proofs.entry_ok.Goals as goal

pub returns-then-sizes-address : goal.returns-then-sizes-address
unfolding entry_ok entry_of
returns-then-sizes-address c = simp (le-ltb _ _ c.if-sizes-address.true)

pub returns-then-not-in_range : goal.returns-then-not-in_range
unfolding entry_ok entry_of
returns-then-not-in_range c = simp (lt-ltb _ _ c.if-sizes-address.false, refused c.in_range.ensures c.if-not-in_range.true)

old_good : (c : Else-not-in_range) → within 1 top_version (get_or c.args.entry 3 0) ≡ true
old_good c = passed c.in_range.ensures c.if-not-in_range.false

pub returns-then-not-in_range-2 : goal.returns-then-not-in_range-2
unfolding entry_ok entry_of
returns-then-not-in_range-2 c = simp (lt-ltb _ _ c.if-sizes-address.false, old_good (goal.at.returns-then-not-in_range-2 c).Else-not-in_range, refused c.in_range-2.ensures c.if-not-in_range-2.true)

new_good : (c : Else-not-in_range-2) → within 1 top_version (get_or c.args.entry 4 0) ≡ true
new_good c = passed c.in_range-2.ensures c.if-not-in_range-2.false

-- of two versions the second is the first or the next after it, where the difference is at most one
apart : ℕ → ℕ → ℕ
apart old new = (new + (4294967296 - old)) % 4294967296

next : (old new : ℕ) → old ≤ top_version → new < 4294967296 → leb (apart old new) 1 ≡ (eqb new old || eqb new (suc old))
unfolding apart
next old new h f = go (leb (apart old new) 1) refl
  where
    go : (b : Bool) → leb (apart old new) 1 ≡ b → b ≡ (eqb new old || eqb new (suc old))
    go true k =
        let l = leb-true (apart old new) 1 k in
        ⊎_elim (λ (e : new ≡ old). rw (eq-eqb new old e)) (λ (d : new ≡ old → ⊥). sym (or_right_make (eqb new old) (eq-eqb new (suc old) (omega arith)))) (same? new old)
    go false k = let l = leb-false (apart old new) 1 k in rw (ne_eqb new old (λ (e : new ≡ old). omega arith), ne_eqb new (suc old) (λ (e : new ≡ suc old). omega arith))

pub returns : goal.returns
unfolding entry_ok entry_of apart
returns c =
    simp (lt-ltb _ _ c.if-sizes-address.false, old_good (goal.at.returns c).Else-not-in_range, new_good (goal.at.returns c).Else-not-in_range-2, next _ (get_or c.args.entry 4 0) (within_of (old_good (goal.at.returns c).Else-not-in_range)).1 (omega arith))

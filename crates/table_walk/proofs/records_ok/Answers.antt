-- The records pass where each does beside what is known of its owner.
use Rattle.std.proofs.Common.{rules, ◌≡◌, ◌∙◌, Bool, false, length, get_or, refl, ap, ℕ, Bor, arith}
use borrow.Author.Tests.{tests}
use Rattle.std.specs.List.{list_all, zip}
use Rattle.std.proofs.iter.Yields.{fronts}
use Rattle.std.proofs.lemmas.Fn.{fold_over}
use Rattle.std.proofs.lemmas.Iterator.{YieldsList-from_slice, YieldsList-from_zip, zips}
use Rattle.std.proofs.lemmas.Slice.Zip.{length-zip, get_or-zip}
use Rattle.memory.specs.Pieces.{held_of}
use Rattle.memory.specs.Sound.{all_below}
use Rattle.table_parts.specs.Parts.{record_ok}
use Rattle.table_parts.proofs.Tests.{all_more, below-list, below_same}
use Rattle.table_walk.specs.Walk.{records_ok}
use Rattle.table_walk.proofs.records_ok.Goals as goal

abbrev right : ℕ × Bool → Bool
right p = record_ok (held_of p.0) p.1

pub returns : goal.returns
unfolding records_ok
returns c =
    let rs = c.args.records.now in
    let os = c.args.owned.now in
    let told : c.fold.result ≡ list_all right (zip rs os) =
    fold_over (zips fronts fronts) (λ (p : Bor ℕ × Bor Bool). (p.0.now, p.1.now)) _ (λ rows b. b ≡ list_all right rows) _
    (λ ys a x b q j k. (all_more right ys (x.0.now, x.1.now) j (search (rules, tests)), search (rules, tests)))
    c.zip.result _ _ _ (YieldsList-from_zip {s = c.zip.result} (YieldsList-from_slice rs cc) (YieldsList-from_slice os cc)).runs refl c.fold.ensures.ran in
    let long : length (zip rs os) ≡ length rs = length-zip rs os ∙ omega (arith, c.requires) in
    told ∙ below-list right (0, false) (zip rs os) ∙ ap (λ (n : ℕ). all_below n (λ r. right (get_or (zip rs os) r (0, false)))) long
    ∙ below_same _ _ (length rs) (λ r h. ap right (get_or-zip rs os r (0, false) h (omega (arith, c.requires))))

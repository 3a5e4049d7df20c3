-- `request_access::reached` meets its contract: the place of a task that was overtaken is stored anew.
use mathlib.Core.Path.{◌≡◌, refl, ap, ◌∙◌}
use native.Mathlib.Omega.{arith}
use Rattle.std.specs.Prelude.{Err}
use Rattle.memory.specs.declared.refusal.Refusal.TheVariants.{Overtaken}
use Rattle.memory.specs.Pieces.{set_place}
use Rattle.memory.proofs.Facts.{in_places}
use Rattle.request_access.proofs.Added.{access}
use Rattle.request_access.proofs.reached.Goals as goal

pub put_place-requires : goal.put_place-requires
put_place-requires c =
    let told : c.addressed-access.result ≡ Err Overtaken = c.in-Err-Overtaken.is ∙ ap Err (rw c.in-Err-Overtaken.is at c.in-Err-Overtaken.field-0-is) in
    let lt = (access c.addressed-access.ensures told).shows refl in
    (in_places _ _ c.requires _ lt, grind arith, grind arith)

pub returns-in-Err-Overtaken-clause-leaves : goal.returns-in-Err-Overtaken-clause-leaves
unfolding set_place
returns-in-Err-Overtaken-clause-leaves c =
    let told : c.addressed-access.result ≡ Err Overtaken = c.in-Err-Overtaken.is ∙ ap Err (rw c.in-Err-Overtaken.is at c.in-Err-Overtaken.field-0-is) in
    rw told (grind arith)

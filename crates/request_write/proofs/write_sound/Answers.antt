-- `request_write::write_sound` meets its contract: each way that an access goes on is one of the cases.
use mathlib.Core.Path.{ap, ◌∙◌}
use native.Mathlib.Omega.{arith}
use Rattle.std.specs.Prelude.{Ok}
use Rattle.memory.specs.declared.Place.{Place}
use Rattle.memory.specs.Requests.{write}
use Rattle.memory.proofs.Facts.{words_most}
use Rattle.task_descriptor.proofs.Entries.{within}
use Rattle.request_access.proofs.Added.{access, kept, refuses, addable}
use Rattle.request_write.proofs.Stored.{write_known, write_new}
use Rattle.request_write.proofs.write_sound.Goals as goal

pub returns-in_err-access : goal.returns-in_err-access
unfolding write
returns-in_err-access c =
    refuses _ c.reached.ensures.goes c.reached.ensures.leaves c.in_err-access.was c.from_residual.ensures.1 _ _

pub write_known-requires : goal.write_known-requires
write_known-requires c =
    let ok = c.requires in
    let told = c.in_ok-access.was ∙ ap Ok c.in-Known.is in
    let s = (access c.reached.ensures.goes told).shows in
    (within _ _ ok _ s.task _ (ap (λ (q : Place). q.count) s.here), omega (arith, words_most _ _ ok, s.inside))

pub write_new-requires : goal.write_new-requires
write_new-requires c =
    let ok = c.requires in
    let told = c.in_ok-access.was ∙ ap Ok c.in-New.is in
    let w = access c.reached.ensures.goes told in
    (addable _ _ _ _ _ _ _ w (kept _ _ c.reached.ensures.leaves told) ok, omega (arith, words_most _ _ ok, w.shows.inside))

pub returns-in-Known : goal.returns-in-Known
returns-in-Known c =
    let w = c.reached.ensures in
    let told = c.in_ok-access.was ∙ ap Ok c.in-Known.is in
    c.write_known.ensures _ _ _ ∙ write_known _ _ _ _ _ _ _ (kept _ _ w.leaves told) (access w.goes told) _

pub returns-in-New : goal.returns-in-New
returns-in-New c =
    let w = c.reached.ensures in
    let told = c.in_ok-access.was ∙ ap Ok c.in-New.is in
    c.write_new.ensures _ _ ∙ write_new _ _ _ _ _ _ _ (kept _ _ w.leaves told) (access w.goes told) _

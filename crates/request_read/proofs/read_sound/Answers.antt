-- `request_read::read_sound` meets its contract: each way that an access goes on is one of the cases.
use mathlib.Core.Path.{ap, ◌∙◌}
use Rattle.std.specs.Prelude.{Ok}
use Rattle.memory.specs.Numbers.{reply}
use Rattle.memory.specs.Requests.{read}
use Rattle.request_access.proofs.Added.{access, kept, refuses, addable}
use Rattle.request_read.proofs.Reached.{read_known, read_new}
use Rattle.request_read.proofs.read_sound.Goals as goal

pub returns-in_err-access : goal.returns-in_err-access
unfolding read
returns-in_err-access c =
    refuses _ c.reached.ensures.goes c.reached.ensures.leaves c.in_err-access.was c.from_residual.ensures.1 _ _

pub add_entry-requires : goal.add_entry-requires
add_entry-requires c =
    let w = c.reached.ensures in
    let told = c.in_ok-access.was ∙ ap Ok c.in-New.is in
    addable _ _ _ _ _ _ _ (access w.goes told) (kept _ _ w.leaves told) c.requires

pub returns-in-Known : goal.returns-in-Known
returns-in-Known c =
    let w = c.reached.ensures in
    let told = c.in_ok-access.was ∙ ap Ok c.in-Known.is in
    read_known _ _ _ _ _ _ _ (kept _ _ w.leaves told) (access w.goes told)

pub returns-in-New : goal.returns-in-New
returns-in-New c =
    let w = c.reached.ensures in
    let told = c.in_ok-access.was ∙ ap Ok c.in-New.is in
    ap (reply 0 _) (c.add_entry.ensures _ _) ∙ read_new _ _ _ _ _ _ _ (kept _ _ w.leaves told) (access w.goes told)

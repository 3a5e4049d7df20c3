-- `request_access::addressed` meets its contract: each way out is one of the cases of a Read or Write.
use mathlib.Core.Path.{sym, ap, ◌∙◌}
use native.Mathlib.Omega.{arith}
use Rattle.memory.specs.declared.Place.{Place}
use Rattle.memory.specs.Pieces.{is_open}
use Rattle.memory.proofs.Facts.{tasks_most, run_fits}
use Rattle.task_permit.proofs.Cases.{permit}
use Rattle.request_access.proofs.Addresses.{handed, access_refused, access_5, access_known, access_new}
use Rattle.request_access.proofs.addressed.Goals as goal

pub returns-in_err-place : goal.returns-in_err-place
returns-in_err-place c =
    handed _ c.from_residual.ensures.1 (access_refused _ _ c.args.sound.sound _ _ _ (permit _ _ c.args.sound.sound _ is_open _ c.asked.ensures _ c.in_err-place.was))

pub returns-then-sizes-address : goal.returns-then-sizes-address
returns-then-sizes-address c =
    let p = permit _ _ c.args.sound.sound _ is_open _ c.asked.ensures _ c.in_ok-place.was in
    access_5 _ _ c.args.sound.sound _ _ _ p c.if-sizes-address.true

pub run_of-run-requires : goal.run_of-run-requires
run_of-run-requires c =
    let p = permit _ _ c.args.sound.sound _ is_open _ c.asked.ensures _ c.in_ok-place.was in
    (omega (arith, tasks_most _ _ c.args.sound.sound, p.shows.0), omega (arith, run_fits _ _ c.args.sound.sound _ p.shows.0, ap (λ (q : Place). q.count) p.shows.1))

pub new_address-requires : goal.new_address-requires
new_address-requires c =
    let p = permit _ _ c.args.sound.sound _ is_open _ c.asked.ensures _ c.in_ok-place.was in
    (p.shows.0, c.if-sizes-address.false, ap (λ (q : Place). q.count) p.shows.1)

pub returns-in-Some : goal.returns-in-Some
returns-in-Some c =
    let p = permit _ _ c.args.sound.sound _ is_open _ c.asked.ensures _ c.in_ok-place.was in
    access_known _ _ c.args.sound.sound _ _ _ p c.if-sizes-address.false _ (sym (rw c.run_of-run.ensures at c.find_address.ensures) ∙ c.in-Some.is)

pub returns-in_err-entry-in-None : goal.returns-in_err-entry-in-None
returns-in_err-entry-in-None c =
    let p = permit _ _ c.args.sound.sound _ is_open _ c.asked.ensures _ c.in_ok-place.was in
    let none = sym (rw c.run_of-run.ensures at c.find_address.ensures) ∙ c.in-None.is in
    handed _ c.from_residual-in_err-entry-in-None.ensures.1
    (access_new _ _ c.args.sound.sound _ _ _ p c.if-sizes-address.false none _ _ c.new_address.ensures c.in_err-entry-in-None.was)

pub returns-in_ok-entry-in-None : goal.returns-in_ok-entry-in-None
returns-in_ok-entry-in-None c =
    let p = permit _ _ c.args.sound.sound _ is_open _ c.asked.ensures _ c.in_ok-place.was in
    let none = sym (rw c.run_of-run.ensures at c.find_address.ensures) ∙ c.in-None.is in
    access_new _ _ c.args.sound.sound _ _ _ p c.if-sizes-address.false none _ _ c.new_address.ensures c.in_ok-entry-in-None.was

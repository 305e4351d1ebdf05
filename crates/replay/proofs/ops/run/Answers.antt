-- `replay::ops::run` meets its contract: what each op gives.
use Rattle.replay.proofs.Runs.{run-check, run-size, run-name, run_join, run-member, run-apart, run-unknown, ran-as}
use Rattle.replay.proofs.Runs.{run-read, run-write, run-check-over, run-size-over, run-name-over}
use Rattle.replay.proofs.ops.run.Goals as goal

pub returns-in-1 : goal.returns-in-1
returns-in-1 c = run-check _ _ _ _ c.in-1.is c.check.ensures

pub returns-in-2 : goal.returns-in-2
returns-in-2 c = run-size _ _ _ _ c.in-2.is c.size.ensures

pub returns-in-3 : goal.returns-in-3
returns-in-3 c = run-name _ _ _ _ c.in-3.is (ran-as _ _ c.name.ensures)

pub returns-in-4 : goal.returns-in-4
returns-in-4 c = run_join _ _ _ _ c.in-4.is c.join.ensures

pub returns-in-5 : goal.returns-in-5
returns-in-5 c = run-member _ _ _ _ c.in-5.is c.member.ensures

pub returns-in-6 : goal.returns-in-6
returns-in-6 c = run-apart _ _ _ _ c.in-6.is c.apart.ensures

pub returns-in-7 : goal.returns-in-7
returns-in-7 c = run-read _ _ _ _ c.in-7.is c.read_list.ensures

pub returns-in-8 : goal.returns-in-8
returns-in-8 c = run-write _ _ _ _ c.in-8.is c.write_list.ensures

pub returns-in-9 : goal.returns-in-9
returns-in-9 c = run-check-over _ _ _ _ c.in-9.is c.check_over.ensures

pub returns-in-10 : goal.returns-in-10
returns-in-10 c = run-size-over _ _ _ _ c.in-10.is c.size_over.ensures

pub returns-in-11 : goal.returns-in-11
returns-in-11 c = run-name-over _ _ _ _ c.in-11.is c.name_over.ensures

pub returns-in_default : goal.returns-in_default
returns-in_default c =
    let r = c.in_default.in_default-own.rest in
    let u = r.0.0.0.0 in
    let s = u.0.0 in
    run-unknown _ _ _ s.0.0.0.0.1 s.0.0.0.1 s.0.0.1 s.0.1 s.1 u.0.1 u.1 r.0.0.0.1 r.0.0.1 r.0.1 r.1

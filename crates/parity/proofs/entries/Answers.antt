-- `parity::entries` meets its contract: each arm by the rule of the table.
use Rattle.parity.specs.Parity.{step}
use Rattle.parity.specs.Groups.{register_of, entries_of}
use Rattle.settled.proofs.Arms.{arm, last_arm}
use Rattle.parity.proofs.entries.Goals as goal

pub returns-in-0 : goal.returns-in-0
unfolding register_of step
returns-in-0 c = arm entries_of 0 c.in-0.is

pub returns-in-1 : goal.returns-in-1
unfolding register_of step
returns-in-1 c = arm entries_of 1 c.in-1.is

pub returns-in-2 : goal.returns-in-2
unfolding register_of step
returns-in-2 c = arm entries_of 2 c.in-2.is

pub returns-in-3 : goal.returns-in-3
unfolding register_of step
returns-in-3 c = arm entries_of 3 c.in-3.is

pub returns-in-4 : goal.returns-in-4
unfolding register_of step
returns-in-4 c = arm entries_of 4 c.in-4.is

pub returns-in-5 : goal.returns-in-5
unfolding register_of step
returns-in-5 c = arm entries_of 5 c.in-5.is

pub returns-in-6 : goal.returns-in-6
unfolding register_of step
returns-in-6 c = arm entries_of 6 c.in-6.is

pub returns-in-7 : goal.returns-in-7
unfolding register_of step
returns-in-7 c = arm entries_of 7 c.in-7.is

pub returns-in-8 : goal.returns-in-8
unfolding register_of step
returns-in-8 c = arm entries_of 8 c.in-8.is

pub returns-in-9 : goal.returns-in-9
unfolding register_of step
returns-in-9 c = arm entries_of 9 c.in-9.is

pub returns-in-10 : goal.returns-in-10
unfolding register_of step
returns-in-10 c = arm entries_of 10 c.in-10.is

pub returns-in-11 : goal.returns-in-11
unfolding register_of step
returns-in-11 c = arm entries_of 11 c.in-11.is

pub returns-in-12 : goal.returns-in-12
unfolding register_of step
returns-in-12 c = arm entries_of 12 c.in-12.is

pub returns-in-13 : goal.returns-in-13
unfolding register_of step
returns-in-13 c = arm entries_of 13 c.in-13.is

pub returns-in-14 : goal.returns-in-14
unfolding register_of step
returns-in-14 c = arm entries_of 14 c.in-14.is

pub returns-in_default : goal.returns-in_default
unfolding register_of step
returns-in_default c = last_arm entries_of 15 c.requires c.in_default.in_default-own.rest

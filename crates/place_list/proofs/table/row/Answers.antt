-- `place_list::table::row` meets its contract: each arm has the codes of its row.
use borrow.Author.Rules.{rules}
use Rattle.settled.proofs.Arms.{arm, last_arm}
use Rattle.place_list.specs.Codes.{codes}
use Rattle.place_list.specs.Search.{row_of}
use Rattle.place_list.proofs.table.row.Goals as goal

pub returns-in-0 : goal.returns-in-0
unfolding codes row_of
returns-in-0 c = arm row_of 0 c.in-0.is

pub returns-in-1 : goal.returns-in-1
unfolding codes row_of
returns-in-1 c = arm row_of 1 c.in-1.is

pub returns-in-2 : goal.returns-in-2
unfolding codes row_of
returns-in-2 c = arm row_of 2 c.in-2.is

pub returns-in-3 : goal.returns-in-3
unfolding codes row_of
returns-in-3 c = arm row_of 3 c.in-3.is

pub returns-in-4 : goal.returns-in-4
unfolding codes row_of
returns-in-4 c = arm row_of 4 c.in-4.is

pub returns-in-5 : goal.returns-in-5
unfolding codes row_of
returns-in-5 c = arm row_of 5 c.in-5.is

pub returns-in-6 : goal.returns-in-6
unfolding codes row_of
returns-in-6 c = arm row_of 6 c.in-6.is

pub returns-in-7 : goal.returns-in-7
unfolding codes row_of
returns-in-7 c = arm row_of 7 c.in-7.is

pub returns-in-8 : goal.returns-in-8
unfolding codes row_of
returns-in-8 c = arm row_of 8 c.in-8.is

pub returns-in-9 : goal.returns-in-9
unfolding codes row_of
returns-in-9 c = arm row_of 9 c.in-9.is

pub returns-in-10 : goal.returns-in-10
unfolding codes row_of
returns-in-10 c = arm row_of 10 c.in-10.is

pub returns-in-11 : goal.returns-in-11
unfolding codes row_of
returns-in-11 c = arm row_of 11 c.in-11.is

pub returns-in-12 : goal.returns-in-12
unfolding codes row_of
returns-in-12 c = arm row_of 12 c.in-12.is

pub returns-in-13 : goal.returns-in-13
unfolding codes row_of
returns-in-13 c = arm row_of 13 c.in-13.is

pub returns-in-14 : goal.returns-in-14
unfolding codes row_of
returns-in-14 c = arm row_of 14 c.in-14.is

pub returns-in-15 : goal.returns-in-15
unfolding codes row_of
returns-in-15 c = arm row_of 15 c.in-15.is

pub returns-in-16 : goal.returns-in-16
unfolding codes row_of
returns-in-16 c = arm row_of 16 c.in-16.is

pub returns-in-17 : goal.returns-in-17
unfolding codes row_of
returns-in-17 c = arm row_of 17 c.in-17.is

pub returns-in-18 : goal.returns-in-18
unfolding codes row_of
returns-in-18 c = arm row_of 18 c.in-18.is

pub returns-in-19 : goal.returns-in-19
unfolding codes row_of
returns-in-19 c = arm row_of 19 c.in-19.is

pub returns-in-20 : goal.returns-in-20
unfolding codes row_of
returns-in-20 c = arm row_of 20 c.in-20.is

pub returns-in-21 : goal.returns-in-21
unfolding codes row_of
returns-in-21 c = arm row_of 21 c.in-21.is

pub returns-in-22 : goal.returns-in-22
unfolding codes row_of
returns-in-22 c = arm row_of 22 c.in-22.is

pub returns-in-23 : goal.returns-in-23
unfolding codes row_of
returns-in-23 c = arm row_of 23 c.in-23.is

pub returns-in-24 : goal.returns-in-24
unfolding codes row_of
returns-in-24 c = arm row_of 24 c.in-24.is

pub returns-in-25 : goal.returns-in-25
unfolding codes row_of
returns-in-25 c = arm row_of 25 c.in-25.is

pub returns-in-26 : goal.returns-in-26
unfolding codes row_of
returns-in-26 c = arm row_of 26 c.in-26.is

pub returns-in-27 : goal.returns-in-27
unfolding codes row_of
returns-in-27 c = arm row_of 27 c.in-27.is

pub returns-in-28 : goal.returns-in-28
unfolding codes row_of
returns-in-28 c = arm row_of 28 c.in-28.is

pub returns-in-29 : goal.returns-in-29
unfolding codes row_of
returns-in-29 c = arm row_of 29 c.in-29.is

pub returns-in-30 : goal.returns-in-30
unfolding codes row_of
returns-in-30 c = arm row_of 30 c.in-30.is

pub returns-in-31 : goal.returns-in-31
unfolding codes row_of
returns-in-31 c = arm row_of 31 c.in-31.is

pub returns-in-32 : goal.returns-in-32
unfolding codes row_of
returns-in-32 c = arm row_of 32 c.in-32.is

pub returns-in-33 : goal.returns-in-33
unfolding codes row_of
returns-in-33 c = arm row_of 33 c.in-33.is

pub returns-in-34 : goal.returns-in-34
unfolding codes row_of
returns-in-34 c = arm row_of 34 c.in-34.is

pub returns-in-35 : goal.returns-in-35
unfolding codes row_of
returns-in-35 c = arm row_of 35 c.in-35.is

pub returns-in-36 : goal.returns-in-36
unfolding codes row_of
returns-in-36 c = arm row_of 36 c.in-36.is

pub returns-in-37 : goal.returns-in-37
unfolding codes row_of
returns-in-37 c = arm row_of 37 c.in-37.is

pub returns-in-38 : goal.returns-in-38
unfolding codes row_of
returns-in-38 c = arm row_of 38 c.in-38.is

pub returns-in-39 : goal.returns-in-39
unfolding codes row_of
returns-in-39 c = arm row_of 39 c.in-39.is

pub returns-in-40 : goal.returns-in-40
unfolding codes row_of
returns-in-40 c = arm row_of 40 c.in-40.is

pub returns-in-41 : goal.returns-in-41
unfolding codes row_of
returns-in-41 c = arm row_of 41 c.in-41.is

pub returns-in-42 : goal.returns-in-42
unfolding codes row_of
returns-in-42 c = arm row_of 42 c.in-42.is

pub returns-in-43 : goal.returns-in-43
unfolding codes row_of
returns-in-43 c = arm row_of 43 c.in-43.is

pub returns-in-44 : goal.returns-in-44
unfolding codes row_of
returns-in-44 c = arm row_of 44 c.in-44.is

pub returns-in-45 : goal.returns-in-45
unfolding codes row_of
returns-in-45 c = arm row_of 45 c.in-45.is

pub returns-in-46 : goal.returns-in-46
unfolding codes row_of
returns-in-46 c = arm row_of 46 c.in-46.is

pub returns-in-47 : goal.returns-in-47
unfolding codes row_of
returns-in-47 c = arm row_of 47 c.in-47.is

pub returns-in-48 : goal.returns-in-48
unfolding codes row_of
returns-in-48 c = arm row_of 48 c.in-48.is

pub returns-in-49 : goal.returns-in-49
unfolding codes row_of
returns-in-49 c = arm row_of 49 c.in-49.is

pub returns-in-50 : goal.returns-in-50
unfolding codes row_of
returns-in-50 c = arm row_of 50 c.in-50.is

pub returns-in-51 : goal.returns-in-51
unfolding codes row_of
returns-in-51 c = arm row_of 51 c.in-51.is

pub returns-in-52 : goal.returns-in-52
unfolding codes row_of
returns-in-52 c = arm row_of 52 c.in-52.is

pub returns-in-53 : goal.returns-in-53
unfolding codes row_of
returns-in-53 c = arm row_of 53 c.in-53.is

pub returns-in-54 : goal.returns-in-54
unfolding codes row_of
returns-in-54 c = arm row_of 54 c.in-54.is

pub returns-in_default : goal.returns-in_default
unfolding codes row_of
returns-in_default c = last_arm row_of 55 c.requires (search rules)

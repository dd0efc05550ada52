-- `bad_member` counts the members that are not below the count.
use Rattle.number.proofs.Tallies.{Counting}
use Rattle.lloyd_tests.specs.Tests.{member_off}
use Rattle.lloyd_tests.proofs.test.bad_member.Given as goal

abbrev pub invariant-loop-member : goal.invariant-loop-member
invariant-loop-member l = Counting l.used (member_off l.count l.members) l.bad l.member-index

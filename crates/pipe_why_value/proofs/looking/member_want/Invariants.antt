use Rattle.std.proofs.Common.{◌≡◌, drop}
use Rattle.pipe_why_text.specs.Members.{members_in, want_in}
use Rattle.pipe_why_value.proofs.looking.member_want.Given as goal

abbrev pub invariant-loop-member : goal.invariant-loop-member
invariant-loop-member l = want_in (members_in (drop l.member-index l.known)) l.name ≡ want_in (members_in l.known) l.name

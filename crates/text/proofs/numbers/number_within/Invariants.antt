-- The bytes that are left write the field's number behind the one so far.
use Rattle.std.proofs.Common.{◌≡◌, ◌≤◌, drop}
use Rattle.text.specs.Numbers.{digits_behind, number}
use Rattle.text.proofs.numbers.number_within.Given as goal

abbrev pub invariant-loop-byte : goal.invariant-loop-byte
invariant-loop-byte l = (l.n ≤ l.most) × (digits_behind l.n (drop l.byte-index l.field) ≡ number l.field)

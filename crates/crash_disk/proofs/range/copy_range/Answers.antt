use Rattle.std.proofs.Common.{◌≡◌, inl, inr, min, length, rules}
use Rattle.std.proofs.lemmas.List.{places}
use Rattle.std.proofs.lemmas.Bool.{cases_lt}
use Rattle.crash_disk.proofs.range.copy_range.Goals as goal

pub returns-then-start-end-clause-inside : goal.returns-then-start-end-clause-inside
returns-then-start-end-clause-inside c i low high =
    let same : length c.args.to.now ≡ length c.args.from.now = c.requires in
    let end : c.min-end.result ≡ min c.args.range.end (length c.args.from.now) = c.min-end.ensures in
    elim (cases_lt i c.min-end.result) [
      | inl inside ↦ rw c.copy_from_slice.ensures.after (search (rules, places))
      | inr past ↦ rw c.copy_from_slice.ensures.after (search (rules, places))
    ]

pub returns-then-start-end-clause-outside : goal.returns-then-start-end-clause-outside
returns-then-start-end-clause-outside c i out =
    let same : length c.args.to.now ≡ length c.args.from.now = c.requires in
    let end : c.min-end.result ≡ min c.args.range.end (length c.args.from.now) = c.min-end.ensures in
    elim out [
      | inl low ↦ rw c.copy_from_slice.ensures.after (search (rules, places))
      | inr high ↦ rw c.copy_from_slice.ensures.after (search (rules, places))
    ]

use Rattle.std.proofs.Common.{◌≡◌, fold}
use Rattle.form_urlencoded.specs.Parse.{raw_pairs_left}
use Rattle.post_binding.specs.declared.reading.Occurrence.TheVariants.{Absent}
use Rattle.post_binding.specs.Form.{pairs, decoded_pairs, values}
use Rattle.post_binding.specs.Occurrences.{noted}
use Rattle.post_binding.proofs.reading.occurrence_of.Given as goal

abbrev pub invariant-loop-encoded_name : goal.invariant-loop-encoded_name
invariant-loop-encoded_name l =
    (goal.iterator-loop-encoded_name).can_next l.encoded_name-iterator ×
    (goal.iterator-loop-encoded_name).is_finite l.encoded_name-iterator ×
    (fold noted Absent (values l.name (pairs l.body)) ≡ fold noted l.found (values l.name (decoded_pairs (raw_pairs_left l.encoded_name-iterator))))

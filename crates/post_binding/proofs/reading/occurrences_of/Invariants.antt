use Rattle.std.proofs.Common.{◌≡◌, fold}
use Rattle.form_urlencoded.specs.Parse.{raw_pairs_left}
use Rattle.post_binding.specs.declared.posted.Field.TheVariants.{Request, Response}
use Rattle.post_binding.specs.declared.reading.Occurrence.TheVariants.{Absent}
use Rattle.post_binding.specs.Form.{pairs, decoded_pairs, values, field_name, relay_name}
use Rattle.post_binding.specs.Occurrences.{noted}
use Rattle.post_binding.proofs.reading.occurrences_of.Given as goal

abbrev pub invariant-loop-encoded_name : goal.invariant-loop-encoded_name
invariant-loop-encoded_name l = record {
  next : (goal.iterator-loop-encoded_name).can_next l.encoded_name-iterator;
  finite : (goal.iterator-loop-encoded_name).is_finite l.encoded_name-iterator;
  request : fold noted Absent (values (field_name Request) (pairs l.body)) ≡ fold noted l.request (values (field_name Request) (decoded_pairs (raw_pairs_left l.encoded_name-iterator)));
  response : fold noted Absent (values (field_name Response) (pairs l.body)) ≡ fold noted l.response (values (field_name Response) (decoded_pairs (raw_pairs_left l.encoded_name-iterator)));
  relay : fold noted Absent (values relay_name (pairs l.body)) ≡ fold noted l.relay (values relay_name (decoded_pairs (raw_pairs_left l.encoded_name-iterator)));
}

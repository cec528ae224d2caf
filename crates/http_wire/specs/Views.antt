-- How the definitions see what is read, and what an answer stands for.
use Rattle.std.specs.Prelude.{ℕ, List}
use Rattle.std.specs.Option.{option_map}
use Rattle.http_wire.specs.declared.answer.Answer.{Answer}
use Rattle.http_wire.specs.declared.answer.Answer.TheVariants as answers
use Rattle.http_wire.specs.declared.request.HttpRequest.{HttpRequest}
use Rattle.http_wire.specs.declared.request.Found.{Found}
use Rattle.http_wire.specs.declared.request.Found.TheVariants as found
use Rattle.http_wire.specs.Answers.{fixed}
use Rattle.http_wire.specs.Requests.{Request, Reading, Whole, More, Refused}

abbrev pub request_view : HttpRequest → Request
request_view request = record {
  method = request.method;
  path = request.path.now;
  cookie = option_map (λ text. text.now) request.cookie;
  content_type = option_map (λ text. text.now) request.content_type;
  body = request.body.now;
}

abbrev pub reading_view : Found → Reading
reading_view (found.Whole request) = Whole (request_view request)
reading_view found.More = More
reading_view (found.Refused status) = Refused status

-- the bytes of an answer
abbrev pub answer_bytes : Answer → List ℕ
answer_bytes (answers.Fixed code) = fixed code
answer_bytes (answers.Full bytes) = bytes

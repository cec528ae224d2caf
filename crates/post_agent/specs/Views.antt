-- How the definitions see what is read.
use Rattle.std.specs.Prelude.{ℕ, List, Option}
use Rattle.std.specs.Borrow.{Bor}
use Rattle.std.specs.Option.{option_map}
use Rattle.post_agent.specs.declared.answer.Answer.{Answer}
use Rattle.post_agent.specs.declared.form.FormParts.{FormParts}
use Rattle.post_agent.specs.Reading as reading
use Rattle.post_agent.specs.Received.{Parts}

-- a text, where there is one
abbrev pub text_view : Option (Bor (List ℕ)) → Option (List ℕ)
text_view text = option_map (λ chars. chars.now) text

-- bytes in two
abbrev pub cut_view : Bor (List ℕ) × Bor (List ℕ) → List ℕ × List ℕ
cut_view parts = (parts.0.now, parts.1.now)

-- the value of a line, where there is one, and what stands behind it
abbrev pub field_view : Option (Bor (List ℕ)) × Bor (List ℕ) → Option (List ℕ) × List ℕ
field_view found = (text_view found.0, found.1.now)

abbrev pub answer_view : Answer → Parts
answer_view answer = record {
  status = answer.status;
  location = text_view answer.location;
  cookie = text_view answer.cookie;
  body = answer.body.now;
}

abbrev pub parts_view : FormParts → reading.FormParts
parts_view parts = record {
  url = parts.url.now;
  name = parts.name.now;
  message = parts.message.now;
  relay = text_view parts.relay;
}

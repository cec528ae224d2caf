-- What is read of a head, as places in its bytes.
use Rattle.std.specs.Prelude.{◌≡◌, ℕ, List, length, Option, option_and_then, IfSome}
use Rattle.std.specs.Option.{option_map}
use Rattle.httparse.specs.Grammar.{RequestHead}
use Rattle.httparse.specs.Spans.{IsWithin, span_bytes}
use Rattle.httparse.specs.declared.spans.Span.{Span}
use Rattle.http_wire.specs.declared.head.HeadPlaces.{HeadPlaces}
use Rattle.http_wire.specs.Heads.{IsHead, Parts, parts_of}
use Rattle.http_wire.specs.Lines.{text_of}

-- the text in a place; none where there is no place, or it is no UTF-8
abbrev pub text_at : List ℕ → Option Span → Option (List ℕ)
text_at bytes place = option_and_then text_of (option_map (span_bytes bytes) place)

-- what the places say of the head that the bytes are
abbrev pub parts_at : List ℕ → HeadPlaces → Parts
parts_at bytes places = record {
  method = places.method;
  path = span_bytes bytes places.path;
  cookie = text_at bytes places.cookie;
  content_type = text_at bytes places.content_type;
  size = places.size;
}

-- each place lies in the first n bytes
pub record AreWithin (n : ℕ) (places : HeadPlaces) : Type 0 where
  pub path : IsWithin n places.path
  pub cookie : IfSome places.cookie (IsWithin n)
  pub content_type : IfSome places.content_type (IsWithin n)

-- the bytes are a head, and the places say what is read of it
pub record IsReadFrom (bytes : List ℕ) (places : HeadPlaces) : Type 0 where
  pub end : places.end ≡ length bytes
  pub within : AreWithin (length bytes) places
  pub says : (head : RequestHead) × IsHead bytes head × (parts_at bytes places ≡ parts_of head)

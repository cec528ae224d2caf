-- The definitions at a request of HTTP, which comes in two pieces.
use Rattle.std.specs.Prelude.{ℕ, List, [], ◌∷◌, codes, length, reverse, None, nat_lt, refl, if◌then◌else◌}
use Rattle.std.proofs.Common.{inl, lit<, lit≤, arith}
use Rattle.std.proofs.lemmas.List.Sums.{AllPass-from_list_all}
use lib.Utf8.{encode}
use Rattle.httparse.specs.Grammar.{crlf, RequestHead, print_request, is_token_byte, is_uri_byte}
use Rattle.http_wire.specs.declared.method.Method.TheVariants.{Get}
use Rattle.http_wire.specs.Heads.{IsHead}
use Rattle.http_wire.specs.Requests.{Request, Reading, Whole, More}
use Rattle.conn_table.specs.Events.{Started, Piece, AreCompletions}

head : RequestHead
head = record { blank = []; method = codes "GET"; target = codes "/app"; minor = 1; line_end = crlf; fields = []; last = crlf }

request : Request
request = record { method = Get; path = codes "/app"; cookie = None; content_type = None; body = [] }

is_head : IsHead (codes "GET /app HTTP/1.1\r\n\r\n") head
unfolding head is_token_byte print_request encode
is_head = record {
  read = (
    record {
      method = (lit< tt, AllPass-from_list_all is_token_byte (codes "GET") refl);
      target = (lit< tt, AllPass-from_list_all is_uri_byte (codes "/app") refl);
      target_text = (codes "/app", (refl, refl));
      minor = lit≤ tt;
      fields = λ k d within. absurd (omega arith);
    },
    refl,
  );
  lines = lit≤ tt;
  target = refl;
}

-- the beginning of a request has fewer than 21 bytes
read : List ℕ → Reading
read bytes = if nat_lt (length bytes) 21 then More else Whole request

-- the second piece brings its end, and a byte behind it
in_two_pieces : AreCompletions (reverse (Started 7 ∷ Piece 7 (codes "GET /app HT") ∷ Piece 7 (codes "TP/1.1\r\n\r\nx") ∷ [])) (record { conn = 7; reading = Whole request } ∷ [])
unfolding read head request
in_two_pieces = (read, ((tt, λ held. refl), λ held. inl (head, is_head, refl)), refl)

-- The definitions at worked examples.
use Rattle.std.specs.Prelude.{◌≡◌, true, [], ◌∷◌, ◌++◌, codes, None, Some, refl}
use Rattle.ledger_records.specs.declared.key_number.KeyNumber.TheVariants.{First, Second}
use Rattle.ledger_records.specs.declared.key_number.KeyNumber.{KeyNumber}
use Rattle.ledger_records.specs.declared.sp_record.Opened.{Opened}
use Rattle.ledger_records.specs.declared.sp_record.SpRecord.TheVariants as sp
use Rattle.ledger_records.specs.declared.idp_record.IdpRecord.TheVariants as idp
use Rattle.ledger_records.specs.Fields.{number, text, option_of, list_of, attribute, asking, turn}
use Rattle.ledger_records.specs.SpRecord.{sp_bytes}
use Rattle.ledger_records.specs.IdpRecord.{idp_bytes}

-- the moment 2024-01-01T00:00:04Z
a_moment : number 1704067204000 ≡ 0 ∷ 0 ∷ 1 ∷ 0x8c ∷ 0xc2 ∷ 0x52 ∷ 0x03 ∷ 0xa0 ∷ []
a_moment = refl

a_text : text (codes "_r1") ≡ 0 ∷ 0 ∷ 0 ∷ 3 ∷ 95 ∷ 114 ∷ 49 ∷ []
a_text = refl

no_text : option_of text None ≡ 0 ∷ []
no_text = refl

an_empty_text : option_of text (Some []) ≡ 1 ∷ 0 ∷ 0 ∷ 0 ∷ 0 ∷ []
an_empty_text = refl

-- the attribute `n` without values, and `m` with the value `a`
two_attributes : list_of attribute (
    record { name = codes "n"; values = [] } ∷ record { name = codes "m"; values = codes "a" ∷ [] } ∷ [])
    ≡ 0 ∷ 0 ∷ 0 ∷ 2 ∷ (0 ∷ 0 ∷ 0 ∷ 1 ∷ 110 ∷ 0 ∷ 0 ∷ 0 ∷ 0 ∷ []) ++ (0 ∷ 0 ∷ 0 ∷ 1 ∷ 109 ∷ 0 ∷ 0 ∷ 0 ∷ 1 ∷ 0 ∷ 0 ∷ 0 ∷ 1 ∷ 97 ∷ [])
two_attributes = refl

-- a Confirmed has eight zero bytes in the place of a number
confirmed_bytes : sp_bytes 2 (sp.Confirmed (record { moment = 7; request = codes "_r1" }))
    ≡ 5 ∷ 0 ∷ 0 ∷ 0 ∷ 0 ∷ 0 ∷ 0 ∷ 0 ∷ 0 ∷ (0 ∷ 0 ∷ 0 ∷ 0 ∷ 0 ∷ 0 ∷ 0 ∷ 7 ∷ []) ++ (0 ∷ 0 ∷ 0 ∷ 3 ∷ 95 ∷ 114 ∷ 49 ∷ [])
confirmed_bytes = refl

-- the last byte of a partial logout
partial_bytes : idp_bytes (idp.Ended (record { first = 8; moment = 7; cookies = []; message = []; request = []; peer = []; partial = true }))
    ≡ 13 ∷ (0 ∷ 0 ∷ 0 ∷ 0 ∷ 0 ∷ 0 ∷ 0 ∷ 8 ∷ []) ++ (0 ∷ 0 ∷ 0 ∷ 0 ∷ 0 ∷ 0 ∷ 0 ∷ 7 ∷ []) ++ (0 ∷ 0 ∷ 0 ∷ 0 ∷ 0 ∷ 0 ∷ 0 ∷ 0 ∷ []) ++ (0 ∷ 0 ∷ 0 ∷ 0 ∷ 0 ∷ 0 ∷ 0 ∷ 0 ∷ []) ++ 1 ∷ []
partial_bytes = refl

-- a session whose login this key verified
session : KeyNumber → Opened
session key = record {
  first = 3;
  moment = 7;
  until = 9;
  request = codes "_r1";
  issuer = codes "i";
  assertion = codes "_a1";
  assertion_until = 8;
  token = codes "_t1";
  name = codes "alice";
  index = None;
  attributes = [];
  key = key;
}

-- version 1 has the same bytes without the key
without_its_key : sp_bytes 1 (sp.Opened (session First)) ++ 1 ∷ [] ≡ sp_bytes 2 (sp.Opened (session First))
unfolding session
without_its_key = refl

the_second_key : sp_bytes 1 (sp.Opened (session First)) ++ 2 ∷ [] ≡ sp_bytes 2 (sp.Opened (session Second))
unfolding session
the_second_key = refl

-- an answer that is the last one of its round
last_answer_bytes : idp_bytes (idp.Told (record { first = 0; moment = 7; request = codes "_r1"; confirmed = true; next = None }))
    ≡ 18 ∷ (0 ∷ 0 ∷ 0 ∷ 0 ∷ 0 ∷ 0 ∷ 0 ∷ 0 ∷ []) ++ (0 ∷ 0 ∷ 0 ∷ 0 ∷ 0 ∷ 0 ∷ 0 ∷ 7 ∷ []) ++ (0 ∷ 0 ∷ 0 ∷ 3 ∷ 95 ∷ 114 ∷ 49 ∷ []) ++ 1 ∷ 0 ∷ []
last_answer_bytes = refl

-- a provider that asks, and a turn without an index
asker_bytes : option_of asking (Some (record { peer = codes "s"; request = codes "r"; relay = None }))
    ≡ 1 ∷ 0 ∷ 0 ∷ 0 ∷ 1 ∷ 115 ∷ 0 ∷ 0 ∷ 0 ∷ 1 ∷ 114 ∷ 0 ∷ []
asker_bytes = refl

turn_bytes : list_of turn (record { peer = codes "s"; name = []; indexes = [] } ∷ [])
    ≡ 0 ∷ 0 ∷ 0 ∷ 1 ∷ 0 ∷ 0 ∷ 0 ∷ 1 ∷ 115 ∷ 0 ∷ 0 ∷ 0 ∷ 0 ∷ 0 ∷ 0 ∷ 0 ∷ 0 ∷ []
turn_bytes = refl

-- Lines at worked examples.
use Rattle.std.specs.Prelude.{◌≡◌, [], ◌∷◌, None, Some, codes, refl}
use Rattle.std.specs.Fmt.{digits}
use Rattle.ledger_records.specs.declared.sp_record.Left.{Left}
use Rattle.ledger_records.specs.declared.sp_record.SpRecord.TheVariants as sp
use Rattle.record_lines.specs.Escapes.{escaped}
use Rattle.record_lines.specs.Instants.{day_at, instant}
use Rattle.record_lines.specs.Lines.{Asker, Attributes, MaybeText, Secret, Secrets, Turns, turn_pieces, shown, sp_line}

-- the first moment, the last of the first leap day, and the first moment that has no written form
first_moment : instant 0 ≡ codes "1970-01-01T00:00:00.000Z"
unfolding day_at
first_moment = refl

leap_day : instant 68255999999 ≡ codes "1972-02-29T23:59:59.999Z"
unfolding day_at
leap_day = refl

no_instant : instant 253402300800000 ≡ codes "253402300800000"
unfolding digits
no_instant = refl

-- a space, a backslash and two bytes beyond ASCII, among the first and the last of the visible characters
escapes : (escaped (codes "!a b\\~") ≡ codes "!a\\20b\\5c~") × (escaped (195 ∷ 169 ∷ 10 ∷ 127 ∷ []) ≡ codes "\\c3\\a9\\0a\\7f")
escapes = (refl, refl)

-- an option that is not there, and an empty text
options : (shown (MaybeText (codes "index") None) ≡ []) × (shown (MaybeText (codes "index") (Some [])) ≡ codes " index=")
options = (refl, refl)

-- the number of a secret, and of each of several
secret : shown (Secret (codes "token") (codes "_00000000000000032bc68b334851ecfe")) ≡ codes " token=_0000000000000003"
secret = refl

secrets : shown (Secrets (codes "tokens") (codes "_0000000000000003aa" ∷ codes "_0000000000000007" ∷ [])) ≡ codes " tokens=_0000000000000003 tokens=_0000000000000007"
secrets = refl

-- an attribute without values, and one whose name holds what ends a name
attributes : shown (Attributes (record { name = codes "none"; values = [] } ∷ record { name = codes "a=b"; values = codes "c=d" ∷ [] ∷ [] } ∷ []))
    ≡ codes " attribute.none attribute.a\\3db=c=d attribute.a\\3db="
attributes = refl

-- a provider that asks, whose relay state is left out, and two turns, of which one has no index
asker : shown (Asker (Some (record { peer = codes "sp"; request = codes "_l 1"; relay = Some (codes "back") })))
    ≡ codes " asker.peer=sp asker.request=_l\\201"
asker = refl

turns : shown (Turns (record { peer = codes "b"; name = codes "alice"; indexes = [] }
    ∷ record { peer = codes "c"; name = codes "alice"; indexes = codes "_1" ∷ codes "_2" ∷ [] } ∷ []))
    ≡ codes " turn=b turn.name=alice turn=c turn.name=alice turn.index=_1 turn.index=_2"
unfolding turn_pieces
turns = refl

-- a whole line
a_left : Left
a_left = record { first = 4; moment = 2000; until = 602000; token = codes "_000000000000000377"; request = codes "_0000000000000004\n" }

left_line : sp_line (sp.Left a_left) ≡ codes "1970-01-01T00:00:02.000Z Left until=1970-01-01T00:10:02.000Z token=_0000000000000003 request=_0000000000000004\\0a\n"
unfolding day_at a_left
left_line = refl

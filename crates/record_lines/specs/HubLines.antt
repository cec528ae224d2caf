-- The line that is printed of a hub's record.
use Rattle.std.specs.Prelude.{ℕ, List, [], ◌∷◌, codes}
use Rattle.ledger_records.specs.Fields.{key_byte}
use Rattle.ledger_records.specs.declared.hub_record.Routed.{Routed}
use Rattle.ledger_records.specs.declared.hub_record.Backed.{Backed}
use Rattle.ledger_records.specs.declared.hub_record.Spoke.{Spoke}
use Rattle.ledger_records.specs.declared.hub_record.HubRecord.{HubRecord}
use Rattle.ledger_records.specs.declared.hub_record.HubRecord.TheVariants as hub
use Rattle.record_lines.specs.Lines.{Field, Moment, Number, Text, Attributes, line}

-- The fields are those of the payload, in its order. The first number that was drawn is not printed, and relay states are left out.
abbrev pub routed : Routed → List Field
routed r =
    Moment (codes "until") r.until ∷ Text (codes "request") r.request ∷ Text (codes "peer") r.peer
    ∷ Text (codes "consumer") r.consumer ∷ Text (codes "below") r.below ∷ []

abbrev pub backed : Backed → List Field
backed r =
    Text (codes "request") r.request ∷ Text (codes "issuer") r.issuer ∷ Text (codes "above") r.above
    ∷ Moment (codes "assertion_until") r.assertion_until ∷ Number (codes "key") (key_byte r.key)
    ∷ Text (codes "assertion") r.assertion ∷ Text (codes "message") r.message ∷ Text (codes "index") r.index
    ∷ Text (codes "name") r.name ∷ Text (codes "peer") r.peer ∷ Text (codes "consumer") r.consumer
    ∷ Text (codes "below") r.below ∷ Moment (codes "until") r.until ∷ Attributes r.attributes ∷ []

abbrev pub hub_spoke : Spoke → List Field
hub_spoke r = Text (codes "message") r.message ∷ Text (codes "request") r.request ∷ Text (codes "peer") r.peer ∷ []

abbrev pub hub_line : HubRecord → List ℕ
hub_line (hub.Routed r) = line r.moment (codes "Routed") (routed r)
hub_line (hub.Backed r) = line r.moment (codes "Backed") (backed r)
hub_line (hub.Spoke r) = line r.moment (codes "Spoke") (hub_spoke r)

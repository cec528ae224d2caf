use Rattle.std.proofs.Common.{◌≡◌, ◌-◌, length, drop, length-take, length-drop, refl, arith}
use Rattle.gate_journal.specs.declared.header.Header.{Header}
use Rattle.gate_journal.specs.Format.{header_of}
use Rattle.gate_journal.proofs.Coming.{text_holds, sound_text, text_fits}
use Rattle.gate_journal.proofs.texts.read_records.Goals as goal

pub invariant_of-payloads : goal.invariant_of-payloads
invariant_of-payloads c =
    let file = c.args.file.now in
    let within = length-drop 72 file in
    let taken = length-take (length file - 72) (drop 72 file) in
    (sound_text c.args.longest file c.in_ok-walk.ensures, omega (arith, within, taken, c.requires.short, c.requires.long), c.requires.longest)

pub invariant_of-result : goal.invariant_of-result
invariant_of-result c = (
  refl,
  (λ one. let last = c.requires.last one in omega (arith, c.number_of.ensures)),
  (λ one. let short = c.requires.one one in text_fits c.args.longest c.args.file.now c.in_ok-walk.ensures c.requires.long short.0 short.1),
)

pub returns : goal.returns
returns c =
    let file = c.args.file.now in
    let of : (g h n : _) → Header = λ g h n. record { generation = g; horizon = h; next = n } in
    let header : of c.number_of.result c.number_of-2.result c.number_of-3.result ≡ header_of file =
    λ i. record { generation = c.number_of.ensures i; horizon = c.number_of-2.ensures i; next = c.number_of-3.ensures i } in
    text_holds c.args.longest file _ c.in_ok-walk.ensures header

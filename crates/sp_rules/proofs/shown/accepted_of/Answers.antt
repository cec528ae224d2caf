use Rattle.std.proofs.Common.{◌≡◌, ℕ, sym, subst}
use Rattle.xml_spec.specs.Document.{IsRange}
use Rattle.xml_spec.specs.Numbering.{elements_before}
use Rattle.xml_chars.specs.declared.Span.{Span}
use Rattle.saml_tree.specs.Documents.{DocumentView}
use Rattle.saml_tree.specs.Elements.{IsElement}
use Rattle.sp_rules.specs.Keys.{usable}
use Rattle.sp_rules.specs.Shown.{place_of, IsWrittenAt, AreWrittenAt}
use Rattle.sp_rules.proofs.Accepting.{accepted_is}
use Rattle.sp_rules.proofs.Showing.{written_at}
use Rattle.sp_rules.proofs.shown.accepted_of.Goals as goal

-- an element is written in a document where it is in the same one
written : (other document : DocumentView) (n : ℕ) (span : Span) → other ≡ document → IsElement document.tree n →
    IsRange other.text (elements_before other.tree n) (place_of span) → IsWrittenAt document.text document.tree n span
written other document n span same element range =
    written_at document.text document.tree n span element
    (subst (λ (d : DocumentView). IsRange d.text (elements_before d.tree n) (place_of span)) same range)

pub returns : goal.returns
returns c = λ asked target.
    let document = c.args.cover.now.assertion.document in
    let seen = c.at-assertion.result.doc.now in
    let same = c.at-assertion.ensures.document in
    accepted_is (usable c.args.config.now c.args.now) c.args.config.now c.args.now c.args.cover.now c.args.login asked c.args.places.now.name.0 _
    c.requires.spelled.spells c.at-assertion.ensures.vouched c.requires.child c.requires.covers c.requires.read c.requires.name c.session_of.ensures (sym target)
    (record {
      covered = written seen document c.args.cover.now.first.0 c.span.result same c.requires.covers.first_element c.span.ensures;
      signature = written seen document c.args.cover.now.signature.0 c.span-2.result same c.requires.covers.signature_element c.span-2.ensures;
      assertion =
          written seen document c.args.cover.now.assertion.node c.span-3.result same c.at-assertion.ensures.element
          (subst (λ (n : ℕ). IsRange seen.text (elements_before seen.tree n) (place_of c.span-3.result)) c.at-assertion.ensures.node c.span-3.ensures);
      name_span = written seen document c.args.places.now.name.0 c.span-4.result same c.requires.name_element c.span-4.ensures;
      value_spans =
          subst (λ ns. AreWrittenAt document.text document.tree ns c.in_ok-value_spans.value_spans) (sym c.requires.values)
          (subst (λ (d : DocumentView). AreWrittenAt d.text d.tree c.args.places.now.values c.in_ok-value_spans.value_spans) same c.in_ok-value_spans.ensures);
    })

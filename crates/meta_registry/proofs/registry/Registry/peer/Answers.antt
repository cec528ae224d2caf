use Rattle.std.proofs.Common.{◌≡◌, Err, sym, ap, ◌∙◌, subst}
use Rattle.std.specs.Prelude.{filter}
use Rattle.owned_values.specs.Gives.{Gives}
use Rattle.meta_registry.specs.Aggregate.{RegistryView, has_name, says_of, answer_of, answer_in, peer_in}
use Rattle.meta_registry.specs.declared.fault.PeerFault.TheVariants.{NotListed}
use Rattle.meta_registry.specs.Faults.{peer_fault}
use Rattle.meta_registry.proofs.Picking.{only_found, none_found, not_one}
use Rattle.meta_registry.proofs.registry.Registry.peer.Goals as goal

pub returns-in_default : goal.returns-in_default
returns-in_default c =
    let test = has_name c.args.entity.now in
    let kept : c.as_slice-entries.result.now ≡ c.args.self.now.entries = c.as_slice-entries.ensures.value ∙ ap (λ (v : RegistryView). v.entries) c.self.view_is in
    ap (λ entries. answer_in c.args.role (filter test entries)) (sym kept)
    ∙ none_found c.args.role test c.as_slice-entries.result.now (sym c.in_default.ensures)

pub returns-then-count-eq1 : goal.returns-then-count-eq1
returns-then-count-eq1 c =
    let test = has_name c.args.entity.now in
    let entries = c.as_slice-entries.result.now in
    let kept : entries ≡ c.args.self.now.entries = c.as_slice-entries.ensures.value ∙ ap (λ (v : RegistryView). v.entries) c.self.view_is in
    let one = only_found test entries c.in-Some.entry.now (sym c.in-Some.ensures) (sym c.count_of-count.ensures ∙ c.if-count-eq1.true) in
    let said : peer_in c.args.self.now c.args.entity.now c.args.role ≡ answer_of (says_of c.args.role c.in-Some.entry.now) =
    ap (λ entries. answer_in c.args.role (filter test entries)) (sym kept) ∙ ap (answer_in c.args.role) one in
    subst (λ said. Gives (λ peer. peer) peer_fault c.peer.result said) (sym said) c.peer.ensures

pub returns-else-count-eq1 : goal.returns-else-count-eq1
returns-else-count-eq1 c =
    let test = has_name c.args.entity.now in
    let entries = c.as_slice-entries.result.now in
    let kept : entries ≡ c.args.self.now.entries = c.as_slice-entries.ensures.value ∙ ap (λ (v : RegistryView). v.entries) c.self.view_is in
    ap (λ entries. answer_in c.args.role (filter test entries)) (sym kept)
    ∙ subst (λ n. answer_in c.args.role (filter test entries) ≡ Err (NotListed n)) (sym c.count_of-count.ensures)
    (not_one c.args.role test entries (λ e. c.if-count-eq1.false (c.count_of-count.ensures ∙ e)))

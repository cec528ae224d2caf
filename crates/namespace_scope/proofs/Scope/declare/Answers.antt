use Rattle.std.proofs.Common.{◌≡◌, ◌<◌, ℕ, List, length, reverse, Some, ◌∙◌, subst, arith}
use Rattle.std.proofs.lemmas.Map.Text.{text_keys}
use Rattle.namespace_scope.specs.Index.{found, found_after}
use Rattle.namespace_scope.specs.Marks.{levels_of, with_bare}
use Rattle.namespace_scope.proofs.Endings.{reverse-push, IsIndexed-declared, IsIndexed-same}
use Rattle.namespace_scope.proofs.Scope.declare.Goals as goal

pub invariant_of-self : goal.invariant_of-self
invariant_of-self c = c.in_err-settle.ensures.indexed c.self.inside.latest c.self.invariant

pub invariant_of-self-in_err-reserve : goal.invariant_of-self-in_err-reserve
invariant_of-self-in_err-reserve c = rw c.in_err-reserve.ensures.items (c.in_ok-settle.ensures.indexed c.self.inside.latest c.self.invariant)

pub invariant_of-self-in_err-shadowed : goal.invariant_of-self-in_err-shadowed
invariant_of-self-in_err-shadowed c =
    let same : (q : List ℕ) → found c.insert.new.self q ≡ found c.self.inside.latest q = λ q. grind (arith, text_keys) in
    rw c.in_ok-reserve.ensures.items (IsIndexed-same _ _ _ (c.in_ok-settle.ensures.indexed c.self.inside.latest c.self.invariant) same)

pub invariant_of-self-2 : goal.invariant_of-self-2
invariant_of-self-2 c =
    let marks = c.settle.new.marks.items in
    let view : levels_of (reverse marks) ≡ c.args.self.now =
    subst (λ n. with_bare n (levels_of (reverse marks)) ≡ c.args.self.now) c.in_ok-settle.ensures.none (c.in_ok-settle.ensures.same ∙ c.self.view_is) in
    let some : 0 < length (levels_of (reverse marks)) = rw view c.requires in
    let was : c.in_ok-shadowed.shadowed ≡ found c.self.inside.latest c.args.prefix.now = grind (arith, text_keys) in
    let now : (q : List ℕ) → found c.insert.new.self q ≡ found_after c.self.inside.latest c.args.prefix.now (Some c.args.name) q = λ q. grind (arith, text_keys) in
    rw (c.push_reserved.ensures.items, c.in_ok-reserve.ensures.items, reverse-push)
    (IsIndexed-declared _ _ _ _ _ _ (c.in_ok-settle.ensures.indexed c.self.inside.latest c.self.invariant) some was now)

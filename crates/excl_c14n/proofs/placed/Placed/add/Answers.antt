use Rattle.std.proofs.Common.{◌≡◌, ◌+◌, true, false, cond, ◌||◌, Result, Ok, Err, is_ok, is_err, refl, sym, ap, ◌∙◌, subst, arith}
use Rattle.std.specs.List.{insert}
use Rattle.std.specs.Str.{bytes_eq}
use Rattle.xml_spec.specs.Laws.{IsAscending}
use Rattle.xml_spec.specs.Canonical.{byte_order}
use Rattle.excl_c14n.specs.Levels.{is_among}
use Rattle.excl_c14n.proofs.Ascending.{place_found, put_ascends, put_among, put_absent, found_in}
use Rattle.excl_c14n.proofs.Pairs.{prefixes_are, pairs_prefixes, still_sorted, placed_more}
use Rattle.excl_c14n.proofs.placed.Placed.add.Goals as goal

no_err : {A E : Type 0} (r : Result A E) → is_err r ≡ false → is_ok r ≡ true
no_err (Ok a) e = refl
no_err (Err e) h = absurd (let clash : true ≡ false = h in cc)

pub invariant_of-self-else-is_err : goal.invariant_of-self-else-is_err
invariant_of-self-else-is_err c =
    let ps = c.self.inside.prefixes.items in
    let ok = no_err c.insert-in-Err.result (sym c.is_err.ensures.value ∙ c.if-is_err.false) in
    still_sorted ps c.self.inside.places.items c.insert-in-Err.new.self.items c.insert.new.self.items c.self.invariant
    (omega (arith, c.in_ok-insert.ensures.len, c.insert.new.self.ok.0, c.self.inside.places.ok.0))
    (omega (
      arith,
      c.insert-in-Err.ensures.len ∙ ap (λ b. cond b (c.self.inside.prefixes.len + 1) c.self.inside.prefixes.len) ok,
      c.insert-in-Err.new.self.ok.0,
      c.self.inside.prefixes.ok.0,
    ))
    (put_ascends ps c.in-Err.k c.args.prefix
    (place_found ps c.as_slice.result.now c.in-Err.k c.args.prefix c.as_slice.ensures.value c.in-Err.ensures.bound c.in-Err.ensures.position c.self.invariant.ascending)
    c.insert-in-Err.new.self.items (c.insert-in-Err.ensures.items ∙ ap (λ b. cond b (insert ps c.in-Err.k c.args.prefix) ps) ok) c.self.invariant.ascending)

pub returns-else-is_err-clause-ascending : goal.returns-else-is_err-clause-ascending
returns-else-is_err-clause-ascending c =
    let sorted = invariant_of-self-else-is_err c in
    subst (IsAscending byte_order) (sym (prefixes_are c.insert-in-Err.new.self.items c.insert.new.self.items sorted.even)) sorted.ascending

pub returns-else-is_err-clause-among : goal.returns-else-is_err-clause-among
returns-else-is_err-clause-among c = λ q.
    let ps = c.self.inside.prefixes.items in
    let ok = no_err c.insert-in-Err.result (sym c.is_err.ensures.value ∙ c.if-is_err.false) in
    let sorted = invariant_of-self-else-is_err c in
    ap (is_among q) (prefixes_are c.insert-in-Err.new.self.items c.insert.new.self.items sorted.even)
    ∙ put_among ps c.in-Err.k c.args.prefix
    (place_found ps c.as_slice.result.now c.in-Err.k c.args.prefix c.as_slice.ensures.value c.in-Err.ensures.bound c.in-Err.ensures.position c.self.invariant.ascending)
    c.insert-in-Err.new.self.items (c.insert-in-Err.ensures.items ∙ ap (λ b. cond b (insert ps c.in-Err.k c.args.prefix) ps) ok) q
    ∙ ap (λ xs. is_among q xs || bytes_eq q c.args.prefix.now) (pairs_prefixes ps c.self.inside.places.items c.args.self.now c.self.invariant c.self.view_is)

pub returns-else-is_err-clause-placed : goal.returns-else-is_err-clause-placed
returns-else-is_err-clause-placed c = λ tree scope all one.
    let ps = c.self.inside.prefixes.items in
    let ok = no_err c.insert-in-Err.result (sym c.is_err.ensures.value ∙ c.if-is_err.false) in
    let found =
    place_found ps c.as_slice.result.now c.in-Err.k c.args.prefix c.as_slice.ensures.value c.in-Err.ensures.bound c.in-Err.ensures.position c.self.invariant.ascending in
    placed_more ps c.self.inside.places.items c.args.self.now c.self.invariant c.self.view_is tree scope c.in-Err.k c.args.prefix c.args.place
    c.insert-in-Err.new.self.items c.insert.new.self.items
    (c.insert-in-Err.ensures.items ∙ ap (λ b. cond b (insert ps c.in-Err.k c.args.prefix) ps) ok) c.in_ok-insert.ensures.items found.fits all
    (one (ap (is_among c.args.prefix.now) (sym (pairs_prefixes ps c.self.inside.places.items c.args.self.now c.self.invariant c.self.view_is))
    ∙ put_absent ps c.in-Err.k c.args.prefix found))

pub returns-in_default-clause-ascending : goal.returns-in_default-clause-ascending
returns-in_default-clause-ascending c =
    subst (IsAscending byte_order) (pairs_prefixes c.self.inside.prefixes.items c.self.inside.places.items c.args.self.now c.self.invariant c.self.view_is)
    c.self.invariant.ascending

pub returns-in_default-clause-among : goal.returns-in_default-clause-among
returns-in_default-clause-among c = λ q.
    let ps = c.self.inside.prefixes.items in
    let same = pairs_prefixes ps c.self.inside.places.items c.args.self.now c.self.invariant c.self.view_is in
    ap (is_among q) (sym same)
    ∙ found_in ps c.as_slice.result.now c.in_default.field-0 c.args.prefix c.as_slice.ensures.value c.in_default.ensures.bound c.in_default.ensures.ok q
    ∙ ap (λ xs. is_among q xs || bytes_eq q c.args.prefix.now) same

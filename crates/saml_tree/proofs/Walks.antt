-- The walk over the rows of a tree, with the namespaces in force.
use Rattle.std.proofs.Common.{◌≡◌, ℕ, zero, suc, ◌-◌, ◌<◌, ◌≤◌, cond, List, [], ◌∷◌, ◌++◌, length, get_or, take, drop, map, Some, refl, sym, ap, ◌∙◌, subst, inl, inr, arith}
use Rattle.std.specs.Bool.{⊤}
use Rattle.std.specs.List.{slice_get}
use Rattle.std.proofs.Math.Seq.{drop-cons}
use Rattle.std.proofs.lemmas.Bool.{cases_lt}
use Rattle.std.proofs.lemmas.List.{append-nil, get_or_append_left, get_or_push, length_push, length-drop, length-map}
use Rattle.namespace_scope.specs.Levels.{Level}
use Rattle.xml_spec.specs.Tree.{Attribute}
use Rattle.xml_spec.specs.Names.{Scope, outermost, declarations, inner_scope, element_name, HasNames}
use Rattle.tree_rows.specs.Rows.{Shape, ElementShape, TextShape, CommentShape, InstructionShape, Row, nodes_at, no_row}
use Rattle.tree_rows.specs.Shaped.{is_element, IsShaped}
use Rattle.element_names.specs.Spaces.{bindings_of, scope_of, AreNumbered, IsReady, Grows, Enters}
use Rattle.element_names.specs.Named.{kept_namespace, numbers_from, IsResolvedElement}
use Rattle.saml_tree.specs.Resolved.{IsNamedShape, IsResolvedShape, Moves, AreResolved}
use Rattle.element_names.specs.declared.spaces.Spaces.{Spaces}
use Rattle.element_names.specs.declared.names.RowNames.{RowNames}
use Rattle.saml_tree.specs.declared.names.Names.{Names}
use Rattle.element_names.proofs.TableIndexing.{found_still}
use Rattle.element_names.proofs.Bindings.{same_bindings}
use Rattle.saml_tree.proofs.Places.{Steps, steps_of}
use Rattle.saml_tree.proofs.Scopes.{Scopes, behind_shape, behind_kids, behind_other, scopes_from, scope_of_row, first_scopes, scopes_step, scope_is, names_of_rows, row_has_names}

-- each level has the bindings of the scope of its depth
abbrev pub Fits : List (List ℕ) → Scopes → List Level → Type 0
Fits table scopes [] = ⊤
Fits table scopes (level ∷ outer) = (bindings_of table (level ∷ outer) ≡ scopes (length outer)) × Fits table scopes outer

fits_one : (table : List (List ℕ)) (levels : List Level) → length levels ≡ 1 → bindings_of table levels ≡ outermost → Fits table first_scopes levels
fits_one table [] count h = absurd (omega arith)
fits_one table (level ∷ []) count h = (h, tt)
fits_one table (level ∷ other ∷ outer) count h = absurd (omega arith)

fits_drop : (table : List (List ℕ)) (scopes : Scopes) (n : ℕ) (levels : List Level) → Fits table scopes levels → Fits table scopes (drop n levels)
fits_drop table scopes zero levels h = h
fits_drop table scopes (suc n) [] h = tt
fits_drop table scopes (suc n) (level ∷ outer) h = fits_drop table scopes n outer h.1

fits_top : (table : List (List ℕ)) (scopes : Scopes) (levels : List Level) (depth : ℕ) → Fits table scopes levels →
    length levels ≡ suc depth → bindings_of table levels ≡ scopes depth
fits_top table scopes [] depth h count = absurd (omega arith)
fits_top table scopes (level ∷ outer) depth h count = h.0 ∙ ap scopes (let same : length outer ≡ depth = omega arith in same)

fits_kept : (table more : List (List ℕ)) (before after : Scopes) (levels : List Level) → AreNumbered (length table) levels →
    ((d : ℕ) → d < length levels → after d ≡ before d) → Fits table before levels → Fits (table ++ more) after levels
fits_kept table more before after [] numbered same h = tt
fits_kept table more before after (level ∷ outer) numbered same h = (
  same_bindings table more (level ∷ outer) numbered ∙ h.0 ∙ sym (same (length outer) (omega arith)),
  fits_kept table more before after outer numbered.1 (λ d less. same d (omega arith)) h.1,
)

fits_entered : (table : List (List ℕ)) (scopes : Scopes) (levels outer : List Level) (depth : ℕ) → 0 < length levels → drop 1 levels ≡ outer →
    length outer ≡ depth → bindings_of table levels ≡ scopes depth → Fits table scopes outer → Fits table scopes levels
fits_entered table scopes [] outer depth some e count h f = absurd (omega arith)
fits_entered table scopes (level ∷ kept) outer depth some e count h f =
    (h ∙ ap scopes (sym (ap length e ∙ count)), subst (Fits table scopes) (sym e) f)

-- numbers lead to the same namespaces where the table grows
lead_still : (table more : List (List ℕ)) (f : Attribute → List ℕ) (numbers : List ℕ) (attributes : List Attribute) →
    map (slice_get table) numbers ≡ map (λ a. Some (f a)) attributes → map (slice_get (table ++ more)) numbers ≡ map (λ a. Some (f a)) attributes
lead_still table more f [] [] h = refl
lead_still table more f [] (a ∷ attributes) h = absurd (let clash : [] ≡ Some (f a) ∷ map (λ x. Some (f x)) attributes = h in cc)
lead_still table more f (n ∷ numbers) [] h = absurd (let clash : slice_get table n ∷ map (slice_get table) numbers ≡ [] = h in cc)
lead_still table more f (n ∷ numbers) (a ∷ attributes) h =
    let pair : slice_get table n ∷ map (slice_get table) numbers ≡ Some (f a) ∷ map (λ x. Some (f x)) attributes = h in
    let here : slice_get table n ≡ Some (f a) = cc in
    let others : map (slice_get table) numbers ≡ map (λ x. Some (f x)) attributes = cc in
    (λ i. found_still table more n (f a) here i ∷ lead_still table more f numbers attributes others i)

-- numbers stay where more come behind them
taken_still : (count : ℕ) (numbers others : List ℕ) → length (take count numbers) ≡ count → take count (numbers ++ others) ≡ take count numbers
taken_still zero numbers others h = refl
taken_still (suc count) [] others h = absurd (omega arith)
taken_still (suc count) (n ∷ numbers) others h = ap (λ ns. n ∷ ns) (taken_still count numbers others (omega arith))

numbers_still : (from count : ℕ) (numbers others : List ℕ) → length (numbers_from numbers from count) ≡ count →
    numbers_from (numbers ++ others) from count ≡ numbers_from numbers from count
numbers_still zero count numbers others h = taken_still count numbers others h
numbers_still (suc from) zero [] others h = refl
numbers_still (suc from) (suc count) [] others h = absurd (omega arith)
numbers_still (suc from) count (n ∷ numbers) others h = numbers_still from count numbers others h

element_still : (table more : List (List ℕ)) (numbers others : List ℕ) (scope : Scope) (name : List ℕ) (attributes : List Attribute) (names : RowNames) →
    IsResolvedElement table numbers scope name attributes names → IsResolvedElement (table ++ more) (numbers ++ others) scope name attributes names
element_still table more numbers others scope name attributes names h =
    let own : List ℕ = numbers_from numbers names.from (length attributes) in
    let count : length own ≡ length attributes =
    omega (arith, ap length h.each_attribute, length-map own (slice_get table), length-map attributes (λ (a : Attribute). Some (kept_namespace scope a))) in
    record {
      element = found_still table more names.element (element_name scope name).namespace h.element;
      each_attribute =
          ap (map (slice_get (table ++ more))) (numbers_still names.from (length attributes) numbers others count)
          ∙ lead_still table more (kept_namespace scope) own attributes h.each_attribute;
    }

shape_still : (table more : List (List ℕ)) (numbers others : List ℕ) (scope : Scope) (shape : Shape) (names : RowNames) →
    IsResolvedShape table numbers scope shape names → IsResolvedShape (table ++ more) (numbers ++ others) scope shape names
shape_still table more numbers others scope (ElementShape name attributes) names h =
    element_still table more numbers others (inner_scope attributes scope) name attributes names h
shape_still table more numbers others scope (TextShape text) names h = tt
shape_still table more numbers others scope (CommentShape text) names h = tt
shape_still table more numbers others scope (InstructionShape target value) names h = tt

grown_still : (before after : List (List ℕ)) (earlier later : List ℕ) (scope : Scope) (shape : Shape) (names : RowNames) → Grows before after →
    Grows earlier later → IsResolvedShape before earlier scope shape names → IsResolvedShape after later scope shape names
grown_still before after earlier later scope shape names g n h =
    subst (λ table. IsResolvedShape table later scope shape names) (sym g.1)
    (subst (λ numbers. IsResolvedShape (before ++ g.0) numbers scope shape names) (sym n.1) (shape_still before g.0 earlier n.0 scope shape names h))

-- the levels of a row's depth, after the deeper ones ended
pub record Leaves (before after : Spaces) (depth : ℕ) : Type 0 where
  pub ready : IsReady after
  pub scope : after.scope ≡ drop (length before.scope - suc depth) before.scope
  pub count : length after.scope ≡ suc depth
  pub table : after.table ≡ before.table

same_table : (before after : Spaces) (depth : ℕ) → Leaves before after depth → after.table ≡ before.table
same_table before after depth h = h.table

fits_left : (scopes : Scopes) (before after : Spaces) (depth : ℕ) → Leaves before after depth →
    Fits before.table scopes before.scope → Fits after.table scopes after.scope
fits_left scopes before after depth h f =
    subst (λ table. Fits table scopes after.scope) (sym (same_table before after depth h))
    (subst (Fits before.table scopes) (sym h.scope)
    (fits_drop before.table scopes (length before.scope - suc depth) before.scope f))

-- the namespaces in force behind a row
pub record Moved (scopes : Scopes) (before after : Spaces) (top : ℕ) : Type 0 where
  pub ready : IsReady after
  pub fits : Fits after.table scopes after.scope
  pub top_is : length after.scope - 1 ≡ top
  pub grows : Grows before.table after.table

unmoved : (scopes : Scopes) (before after : Spaces) (depth : ℕ) → IsReady before → length before.scope ≡ suc depth →
    Fits before.table scopes before.scope → after ≡ before → Moved scopes before after depth
unmoved scopes before after depth ready count f e =
    subst (λ (s : Spaces). Moved scopes before s depth) (sym e)
    (record { ready = ready; fits = f; top_is = omega arith; grows = ([], sym (append-nil before.table)) })

entered : (scopes : Scopes) (before after : Spaces) (depth : ℕ) (name : List ℕ) (attributes : List Attribute) → IsReady before →
    length before.scope ≡ suc depth → Fits before.table scopes before.scope → Enters before after (declarations attributes) →
    Moved (behind_shape scopes depth (ElementShape name attributes)) before after (suc depth)
entered scopes before after depth name attributes ready count f h =
    let inside = behind_shape scopes depth (ElementShape name attributes) in
    let table = before.table in
    let more = h.grows.0 in
    let some = h.ready.some in
    let kept : Fits after.table inside before.scope =
    subst (λ t. Fits t inside before.scope) (sym h.grows.1)
    (fits_kept table more scopes inside before.scope ready.numbered
    (λ d less. behind_other scopes depth (ElementShape name attributes) d (λ e. omega arith)) f) in
    let bound : scope_of after ≡ inside (suc depth) =
    h.bound ∙ ap (λ (s : Scope). declarations attributes ++ s) (fits_top table scopes before.scope depth f count)
    ∙ sym (behind_kids scopes depth name attributes) in
    record {
      ready = h.ready;
      fits = fits_entered after.table inside after.scope before.scope (suc depth) some h.outer count bound kept;
      top_is = omega (arith, ap length h.outer, length-drop 1 after.scope);
      grows = h.grows;
    }

pub moved : (scopes : Scopes) (before after : Spaces) (depth : ℕ) (shape : Shape) → IsReady before → length before.scope ≡ suc depth →
    Fits before.table scopes before.scope → Moves before after shape →
    Moved (behind_shape scopes depth shape) before after (cond (is_element shape) (suc depth) depth)
moved scopes before after depth (ElementShape name attributes) ready count f h = entered scopes before after depth name attributes ready count f h
moved scopes before after depth (TextShape text) ready count f h = unmoved scopes before after depth ready count f h
moved scopes before after depth (CommentShape text) ready count f h = unmoved scopes before after depth ready count f h
moved scopes before after depth (InstructionShape target value) ready count f h = unmoved scopes before after depth ready count f h

-- in front of row k: the names so far keep the rules, and what is kept of them leads to their namespaces
pub record Walk (rows : List Row) (k : ℕ) (spaces : Spaces) (numbers : List ℕ) (named : List RowNames) : Type 0 where
  pub ready : IsReady spaces
  pub fits : Fits spaces.table (scopes_from first_scopes rows k) spaces.scope
  pub steps : Steps (length spaces.scope - 1) (drop k rows)
  pub count : length named ≡ k
  pub keeps : (j : ℕ) → j < k → IsNamedShape (scope_of_row first_scopes rows j) (get_or rows j no_row).shape
  pub leads : (j : ℕ) (d : RowNames) → j < k →
      IsResolvedShape spaces.table numbers (scope_of_row first_scopes rows j) (get_or rows j no_row).shape (get_or named j d)

pub walk_first : (rows : List Row) (spaces : Spaces) (numbers : List ℕ) → IsShaped rows → IsReady spaces → length spaces.scope ≡ 1 →
    scope_of spaces ≡ outermost → Walk rows 0 spaces numbers []
walk_first rows spaces numbers shaped ready one scope =
    let top : 0 ≡ length spaces.scope - 1 = omega arith in
    record {
      ready = ready;
      fits = fits_one spaces.table spaces.scope one scope;
      steps = subst (λ n. Steps n rows) top (steps_of rows shaped);
      count = refl;
      keeps = λ j less. absurd (omega arith);
      leads = λ j d less. absurd (omega arith);
    }

walk_steps : (rows : List Row) (k : ℕ) (spaces : Spaces) (numbers : List ℕ) (named : List RowNames) → Walk rows k spaces numbers named → k < length rows →
    Steps (length spaces.scope - 1) (get_or rows k no_row ∷ drop (suc k) rows)
walk_steps rows k spaces numbers named w less = subst (Steps (length spaces.scope - 1)) (drop-cons rows k no_row less) w.steps

pub walk_deep : (rows : List Row) (k : ℕ) (spaces : Spaces) (numbers : List ℕ) (named : List RowNames) (row : Row) → Walk rows k spaces numbers named → k < length rows →
    get_or rows k no_row ≡ row → row.depth < length spaces.scope
walk_deep rows k spaces numbers named row w less is =
    let some = w.ready.some in
    let low = (walk_steps rows k spaces numbers named w less).0 in
    omega (arith, ap (λ (r : Row). r.depth) is)

-- the scope of row k
walk_scope : (rows : List Row) (k : ℕ) (spaces left : Spaces) (numbers : List ℕ) (named : List RowNames) → Walk rows k spaces numbers named →
    Leaves spaces left (get_or rows k no_row).depth → scope_of left ≡ scope_of_row first_scopes rows k
walk_scope rows k spaces left numbers named w h =
    let scopes = scopes_from first_scopes rows k in
    let depth = (get_or rows k no_row).depth in
    fits_top left.table scopes left.scope depth (fits_left scopes spaces left depth h w.fits) h.count

pub walk_refused : (rows : List Row) (k : ℕ) (spaces left : Spaces) (numbers : List ℕ) (named : List RowNames) (row : Row) → Walk rows k spaces numbers named →
    k < length rows → get_or rows k no_row ≡ row → IsShaped rows → Leaves spaces left row.depth → HasNames (nodes_at 0 rows) →
    IsNamedShape (scope_of left) row.shape
walk_refused rows k spaces left numbers named row w less is shaped =
    subst (λ (r : Row). Leaves spaces left r.depth → HasNames (nodes_at 0 rows) → IsNamedShape (scope_of left) r.shape) is
    (λ h names. subst (λ (s : Scope). IsNamedShape s (get_or rows k no_row).shape) (sym (walk_scope rows k spaces left numbers named w h))
    (row_has_names rows k shaped names less))

walk_more : (rows : List Row) (k : ℕ) (spaces left after : Spaces) (numbers later : List ℕ) (named : List RowNames) (names : RowNames) → Walk rows k spaces numbers named → Grows numbers later →
    k < length rows → Leaves spaces left (get_or rows k no_row).depth → IsNamedShape (scope_of left) (get_or rows k no_row).shape →
    IsResolvedShape after.table later (scope_of left) (get_or rows k no_row).shape names →
    Moves left after (get_or rows k no_row).shape → Walk rows (suc k) after later (named ++ names ∷ [])
walk_more rows k spaces left after numbers later named names w more less h keeps leads moves =
    let scopes = scopes_from first_scopes rows k in
    let row = get_or rows k no_row in
    let m = moved scopes left after row.depth row.shape h.ready h.count (fits_left scopes spaces left row.depth h w.fits) moves in
    let scope = walk_scope rows k spaces left numbers named w h in
    let grows : Grows spaces.table after.table =
    (m.grows.0, m.grows.1 ∙ ap (λ t. t ++ m.grows.0) (same_table spaces left row.depth h)) in
    let count = w.count in
    record {
      ready = m.ready;
      fits = subst (λ (s : Scopes). Fits after.table s after.scope) (sym (scopes_step first_scopes rows k less)) m.fits;
      steps = subst (λ n. Steps n (drop (suc k) rows)) (sym m.top_is) (walk_steps rows k spaces numbers named w less).1;
      count = omega (arith, length_push named names);
      keeps = λ j low. elim (cases_lt j k) [
        | inl before ↦ w.keeps j before
        | inr other ↦
            let here : k ≡ j = omega arith in
            subst (λ (i : ℕ). IsNamedShape (scope_of_row first_scopes rows i) (get_or rows i no_row).shape) here
            (subst (λ (s : Scope). IsNamedShape s row.shape) scope keeps)
      ];
      leads = λ j d low. elim (cases_lt j k) [
        | inl before ↦
            subst (IsResolvedShape after.table later (scope_of_row first_scopes rows j) (get_or rows j no_row).shape)
            (sym (get_or_append_left named (names ∷ []) d j (omega arith)))
            (grown_still spaces.table after.table numbers later (scope_of_row first_scopes rows j) (get_or rows j no_row).shape (get_or named j d) grows more
            (w.leads j d before))
        | inr other ↦
            let here : k ≡ j = omega arith in
            subst (IsResolvedShape after.table later (scope_of_row first_scopes rows j) (get_or rows j no_row).shape)
            (sym (get_or_push named names d j (count ∙ here)))
            (subst (λ (i : ℕ). IsResolvedShape after.table later (scope_of_row first_scopes rows i) (get_or rows i no_row).shape names) here
            (subst (λ (s : Scope). IsResolvedShape after.table later s row.shape names) scope leads))
      ];
    }

pub walk_on : (rows : List Row) (k : ℕ) (spaces left after : Spaces) (numbers later : List ℕ) (named : List RowNames) (names : RowNames) (row : Row) → Walk rows k spaces numbers named → Grows numbers later →
    k < length rows → get_or rows k no_row ≡ row → Leaves spaces left row.depth → IsNamedShape (scope_of left) row.shape →
    IsResolvedShape after.table later (scope_of left) row.shape names → Moves left after row.shape →
    Walk rows (suc k) after later (named ++ names ∷ [])
walk_on rows k spaces left after numbers later named names row w more less is =
    subst (λ (r : Row). Leaves spaces left r.depth → IsNamedShape (scope_of left) r.shape →
    IsResolvedShape after.table later (scope_of left) r.shape names → Moves left after r.shape →
    Walk rows (suc k) after later (named ++ names ∷ [])) is
    (walk_more rows k spaces left after numbers later named names w more less)

pub walked_names : (rows : List Row) (k : ℕ) (spaces : Spaces) (numbers : List ℕ) (named : List RowNames) → Walk rows k spaces numbers named → length rows ≤ k →
    HasNames (nodes_at 0 rows)
walked_names rows k spaces numbers named w all = names_of_rows rows (λ j less. w.keeps j (omega arith))

pub walked : (rows : List Row) (spaces : Spaces) (names : Names) → IsShaped rows →
    Walk rows (length rows) spaces names.attributes.items names.rows.items → names.table ≡ spaces.table → AreResolved rows names
walked rows spaces names shaped w table = record {
  count = w.count;
  xmlns = ap (λ t. slice_get t 2) table ∙ w.ready.xmlns;
  each = λ j d less. record {
    leads =
        subst (λ (s : Scope). IsResolvedShape names.table names.attributes.items s (get_or rows j no_row).shape (get_or names.rows.items j d))
        (sym (scope_is rows j shaped less))
        (subst (λ table. IsResolvedShape table names.attributes.items (scope_of_row first_scopes rows j) (get_or rows j no_row).shape (get_or names.rows.items j d)) (sym table)
        (w.leads j d less));
  };
}

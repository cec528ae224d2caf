-- How rows stay linked: one row more, one element opened, one closed.
use Rattle.std.proofs.Common.{◌≡◌, ℕ, zero, suc, ◌+◌, ◌-◌, ◌<◌, ◌≤◌, ◌⊎◌, List, [], ◌∷◌, ◌++◌, length, get_or, set, sym, ap, ◌∙◌, refl, subst, inl, inr, arith}
use Rattle.std.proofs.lemmas.List.{get_or_append_left, get_or_push, get_or_default, length_push, length-set, get_or-set_same, get_or-set_other}
use Rattle.std.proofs.lemmas.Bool.{cases_lt, cases_eq}
use Rattle.tree_rows.specs.Rows.{Row}
use Rattle.tree_rows.specs.Shaped.{AreBelow, IsShaped}
use Rattle.saml_tree.specs.Links.{depths_of, IsParent, IsOpen, IsClosed, AreLinkedSoFar, AreLinked}
use Rattle.tree_rows.specs.declared.node.Link.{Link}

below_deep : (before : Row) (rows : List Row) (k : ℕ) → AreBelow before rows → k < length rows → 1 ≤ get_or (depths_of rows) k 0
below_deep before [] k h in_rows = absurd (omega arith)
below_deep before (row ∷ rows) zero h in_rows = h.0
below_deep before (row ∷ rows) (suc k) h in_rows = below_deep row rows k h.2 (omega arith)

-- only the root has depth 0
pub is_below : (rows : List Row) (k : ℕ) → IsShaped rows → 0 < k → k < length rows → 1 ≤ get_or (depths_of rows) k 0
is_below [] k h some in_rows = absurd h
is_below (row ∷ rows) zero h some in_rows = absurd (omega arith)
is_below (row ∷ rows) (suc k) h some in_rows = below_deep row rows k h.2 (omega arith)

abbrev Ends : List ℕ → List ℕ → ℕ → ℕ → Type 0
Ends depths numbers k end = ((i : ℕ) × (i < length numbers) × (get_or numbers i 0 ≡ k)) ⊎ IsClosed depths (length numbers) k end

pub none_linked : AreLinkedSoFar [] [] []
none_linked = record {
  count = omega arith;
  opened = λ i less. absurd (omega arith);
  parents = λ k link less some. absurd (omega arith);
  ends = λ k link less. absurd (omega arith);
}

-- one depth more
module _ (depths : List ℕ) (depth : ℕ) where
  old : (k : ℕ) → k < length depths → get_or (depths ++ depth ∷ []) k 0 ≡ get_or depths k 0
  old k less = get_or_append_left depths (depth ∷ []) 0 k less

  new : (k : ℕ) → length depths ≡ k → get_or (depths ++ depth ∷ []) k 0 ≡ depth
  new k last = get_or_push depths depth 0 k last

  open_still : (i n : ℕ) → i < depth → IsOpen depths i n → IsOpen (depths ++ depth ∷ []) i n
  open_still i n less h =
      let there = h.there in
      record {
        there = omega (arith, length_push depths depth);
        at = old n there ∙ h.at;
        deeper = λ k after within. elim (cases_lt k (length depths)) [
          | inl front ↦ omega (arith, h.deeper k after front, old k front)
          | inr back ↦ (let last : length depths ≡ k = omega (arith, length_push depths depth) in omega (arith, new k last))
        ];
      }

  parent_still : (k p : ℕ) → k < length depths → IsParent depths k p → IsParent (depths ++ depth ∷ []) k p
  parent_still k p less h =
      let before = h.before in
      record {
        before = before;
        one_less = omega (arith, h.one_less, old p (omega arith), old k less);
        between = λ i after until. omega (arith, h.between i after until, old i (omega arith), old k less);
      }

  parent_last : (p : ℕ) → 0 < depth → IsOpen depths (depth - 1) p → IsParent (depths ++ depth ∷ []) (length depths) p
  parent_last p some h =
      let there = h.there in
      let last = new (length depths) refl in
      record {
        before = there;
        one_less = omega (arith, h.at, old p there, last);
        between = λ i after until. omega (arith, h.deeper i after until, old i until, last);
      }

  end_still : (k e : ℕ) → k < length depths → IsClosed depths depth k e → IsClosed (depths ++ depth ∷ []) depth k e
  end_still k e less h =
      let in_range = h.is_end.in_range in
      record {
        is_end = record {
          behind = h.is_end.behind;
          in_range = omega (arith, length_push depths depth);
          deeper = λ i after until. omega (arith, h.is_end.deeper i after until, old i (omega arith), old k less);
          stops = λ within. elim (cases_lt e (length depths)) [
            | inl front ↦ omega (arith, h.is_end.stops front, old e front, old k less)
            | inr back ↦ (let last : length depths ≡ e = omega arith in omega (arith, h.last (sym last), new e last, old k less))
          ];
        };
        last = λ at. absurd (omega (arith, length_push depths depth));
      }

  end_last : (e : ℕ) → e ≡ length depths + 1 → IsClosed (depths ++ depth ∷ []) depth (length depths) e
  end_last e is = record {
    is_end = record {
      behind = omega arith;
      in_range = omega (arith, length_push depths depth);
      deeper = λ i after until. absurd (omega arith);
      stops = λ within. absurd (omega (arith, length_push depths depth));
    };
    last = λ at. omega (arith, new (length depths) refl);
  }

-- a row more, in which none stands
pub linked_more : (depths : List ℕ) (links : List Link) (numbers : List ℕ) (link : Link) → AreLinkedSoFar depths links numbers →
    link.parent ≡ get_or numbers (length numbers - 1) 0 → link.end ≡ length depths + 1 →
    AreLinkedSoFar (depths ++ length numbers ∷ []) (links ++ link ∷ []) numbers
linked_more depths links numbers link h parent end =
    let count = h.count in
    let all : List ℕ = depths ++ length numbers ∷ [] in
    let push = length_push links link in
    record {
      count = omega (arith, push, length_push depths (length numbers));
      opened = λ i less. open_still depths (length numbers) i (get_or numbers i 0) less (h.opened i less);
      parents = λ k d less some. elim (cases_lt k (length depths)) [
        | inl front ↦
            subst (λ (l : Link). IsParent all k l.parent) (sym (get_or_append_left links (link ∷ []) d k (omega arith)))
            (parent_still depths (length numbers) k (get_or links k d).parent front
            (h.parents k d (omega arith) (omega (arith, old depths (length numbers) k front))))
        | inr back ↦
            (let last : length depths ≡ k = omega arith in
            let deep : 0 < length numbers = omega (arith, new depths (length numbers) k last) in
            subst (λ (l : Link). IsParent all k l.parent) (sym (get_or_push links link d k (count ∙ last)))
            (subst (λ (n : ℕ). IsParent all n link.parent) last
            (subst (λ (p : ℕ). IsParent all (length depths) p) (sym parent)
            (parent_last depths (length numbers) (get_or numbers (length numbers - 1) 0) deep (h.opened (length numbers - 1) (omega arith))))))
      ];
      ends = λ k d less. elim (cases_lt k (length depths)) [
        | inl front ↦
            subst (λ (l : Link). Ends all numbers k l.end) (sym (get_or_append_left links (link ∷ []) d k (omega arith)))
            (elim (h.ends k d (omega arith)) [
              | inl still ↦ inl still
              | inr closed ↦ inr (end_still depths (length numbers) k (get_or links k d).end front closed)
            ])
        | inr back ↦
            (let last : length depths ≡ k = omega arith in
            subst (λ (l : Link). Ends all numbers k l.end) (sym (get_or_push links link d k (count ∙ last)))
            (subst (λ (n : ℕ). Ends all numbers n link.end) last (inr (end_last depths (length numbers) link.end end))))
      ];
    }

-- the last row is opened
pub linked_opened : (depths : List ℕ) (links : List Link) (numbers : List ℕ) (n : ℕ) → AreLinkedSoFar depths links numbers →
    n + 1 ≡ length depths → get_or depths n 0 ≡ length numbers → AreLinkedSoFar depths links (numbers ++ n ∷ [])
linked_opened depths links numbers n h last at = record {
  count = h.count;
  opened = λ i less. elim (cases_lt i (length numbers)) [
    | inl front ↦ subst (λ (m : ℕ). IsOpen depths i m) (sym (get_or_append_left numbers (n ∷ []) 0 i front)) (h.opened i front)
    | inr back ↦
        (let here : length numbers ≡ i = omega (arith, length_push numbers n) in
        subst (λ (m : ℕ). IsOpen depths i m) (sym (get_or_push numbers n 0 i here))
        (record { there = omega arith; at = at ∙ here; deeper = λ k after until. absurd (omega arith) }))
  ];
  parents = h.parents;
  ends = λ k d less. elim (cases_eq k n) [
    | inl same ↦ inl (length numbers, omega (arith, length_push numbers n), get_or_push numbers n 0 (length numbers) refl ∙ sym same)
    | inr other ↦ elim (h.ends k d less) [
      | inl still ↦ inl (still.0, omega (arith, still.1, length_push numbers n), get_or_append_left numbers (n ∷ []) 0 still.0 still.1 ∙ still.2)
      | inr closed ↦ inr (record {
        is_end = closed.is_end;
        last = λ e. absurd (omega (arith, closed.last e, closed.is_end.deeper n (omega (arith, h.count)) (omega arith)));
      })
    ]
  ];
}

-- the innermost open element is closed
pub linked_closed : (depths : List ℕ) (links : List Link) (numbers : List ℕ) (n : ℕ) (link : Link) → AreLinkedSoFar depths links (numbers ++ n ∷ []) →
    n < length links → link.parent ≡ (get_or links n link).parent → link.end ≡ length depths →
    AreLinkedSoFar depths (set links n link) numbers
linked_closed depths links numbers n link h within parent end =
    let count = h.count in
    let push = length_push numbers n in
    let own : IsOpen depths (length numbers) n =
    subst (λ (m : ℕ). IsOpen depths (length numbers) m) (get_or_push numbers n 0 (length numbers) refl) (h.opened (length numbers) (omega arith)) in
    let same_parent : (k : ℕ) (d : Link) → k < length links → (get_or (set links n link) k d).parent ≡ (get_or links k d).parent =
    λ k d less. elim (cases_eq k n) [
      | inl here ↦
          ap (λ i. (get_or (set links n link) i d).parent) here ∙ ap (λ (l : Link). l.parent) (get_or-set_same links n link d within)
          ∙ parent ∙ ap (λ (l : Link). l.parent) (get_or_default links n link d within) ∙ ap (λ i. (get_or links i d).parent) (sym here)
      | inr other ↦ ap (λ (l : Link). l.parent) (get_or-set_other links n k link d other)
    ] in
    record {
      count = length-set links n link ∙ count;
      opened = λ i less. subst (λ (m : ℕ). IsOpen depths i m) (get_or_append_left numbers (n ∷ []) 0 i less) (h.opened i (omega arith));
      parents = λ k d less some.
          subst (λ (p : ℕ). IsParent depths k p) (sym (same_parent k d (omega (arith, length-set links n link))))
          (h.parents k d (omega (arith, length-set links n link)) some);
      ends = λ k d less. elim (cases_eq k n) [
        | inl here ↦
            subst (λ (l : Link). Ends depths numbers k l.end)
            (sym (ap (λ i. get_or (set links n link) i d) here ∙ get_or-set_same links n link d within))
            (subst (λ (i : ℕ). Ends depths numbers i link.end) (sym here) (inr (record {
              is_end = record {
                behind = omega (arith, own.there);
                in_range = omega arith;
                deeper = λ i after until. omega (arith, own.deeper i after (omega arith), own.at);
                stops = λ inside. absurd (omega arith);
              };
              last = λ e. omega (arith, own.at);
            })))
        | inr other ↦
            subst (λ (l : Link). Ends depths numbers k l.end) (sym (get_or-set_other links n k link d other))
            (elim (h.ends k d (omega (arith, length-set links n link))) [
              | inl still ↦ elim (cases_lt still.0 (length numbers)) [
                | inl front ↦ inl (still.0, front, sym (get_or_append_left numbers (n ∷ []) 0 still.0 front) ∙ still.2)
                | inr back ↦
                    (let last : length numbers ≡ still.0 = omega (arith, still.1) in
                    absurd (other (sym still.2 ∙ get_or_push numbers n 0 still.0 last)))
              ]
              | inr closed ↦ inr (record { is_end = closed.is_end; last = λ e. omega (arith, closed.last e) })
            ])
      ];
    }

-- where no element is open, all are linked
pub all_linked : (rows : List Row) (links : List Link) → IsShaped rows → length (depths_of rows) ≡ length rows →
    AreLinkedSoFar (depths_of rows) links [] → AreLinked (depths_of rows) links
all_linked rows links shaped size h =
    let count = h.count in
    record {
      count = count;
      parents = record { each = λ k link some less. h.parents k link less (omega (arith, is_below rows k shaped some (omega arith))) };
      ends = record {
        each = λ k link from less. elim (h.ends k link less) [
          | inl still ↦ absurd (omega (arith, still.1))
          | inr closed ↦ closed.is_end
        ];
      };
    }

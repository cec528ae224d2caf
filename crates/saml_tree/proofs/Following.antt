-- What the program keeps while it reads, and what it answers.
use Rattle.std.proofs.Common.{◌≡◌, ℕ, suc, ◌-◌, Bool, true, false, not, ◌&&◌, ◌==◌, ◌⊎◌, inl, inr, List, [], ◌∷◌, ◌++◌, length, refl, sym, ◌∙◌, ap, subst, arith, length-append, append-nil, append_assoc}
use Rattle.std.proofs.lemmas.List.{length-reverse}
use Rattle.xml_spec.specs.Characters.{IsText}
use Rattle.xml_spec.specs.Tree.{Nodes, IsWithinLimits}
use Rattle.xml_spec.specs.Syntax.{Token, print_token}
use Rattle.xml_spec.specs.Document.{Spells}
use Rattle.xml_spec.specs.Laws.{BeginsWith}
use Rattle.xml_tokens.specs.Markup.{NoTokens}
use Rattle.xml_tokens.specs.Heads.{HasHead}
use Rattle.xml_tokens.specs.declared.token.TokenFault.{TokenFault}
use Rattle.xml_tokens.specs.declared.token.TokenFault.TheVariants as tokens
use Rattle.tree_rows.specs.Rows.{Row, nodes_at}
use Rattle.saml_tree.specs.RowTests.{is_small_token}
use Rattle.saml_tree.specs.Run.{State, step, first_state, is_some}
use Rattle.saml_tree.specs.Outlines as outlines
use Rattle.saml_tree.specs.Outlines.{is_complete}
use Rattle.saml_tree.specs.Kept.{IsRead}
use Rattle.saml_tree.specs.Documents.{IsRefused}
use Rattle.saml_tree.specs.Reads.{fault_of, IsNotKept, IsFaultBeyond}
use Rattle.saml_tree.specs.Links.{depths_of, AreLinkedSoFar}
use Rattle.saml_tree.specs.Views.{builder_view, IsLinking}
use Rattle.tree_rows.specs.Views.{RowsView}
use Rattle.tree_rows.specs.declared.node.Link.{Link}
use Rattle.saml_tree.specs.declared.build.Builder.{Builder}
use Rattle.saml_tree.specs.declared.node.TreeFault.{TreeFault}
use Rattle.saml_tree.specs.declared.node.TreeFault.TheVariants as faults
use Rattle.saml_tree.proofs.Bounds.{small_is_within}
use Rattle.saml_tree.proofs.Completing.{run_append}
use Rattle.saml_tree.proofs.Counting.{are_small, step_grows}
use Rattle.saml_tree.proofs.ReadingOn.{spells_nothing, progress_on}
use Rattle.saml_tree.proofs.Reading.{start, after, Progress, whole_shaped, read_whole}

-- the builder has all rows, and they are within the limits
pub record Follows (builder : Builder) (s : State) : Type 0 where
  pub small : are_small s.rows ≡ true
  pub view : builder_view builder ≡ s

-- whether the rows are within the limits, one more token read
pub more_small : (text rest : List ℕ) (ts : List Token) (t : Token) (small : Bool) → are_small (after text rest ts).rows ≡ true →
    is_small_token (length (after text rest ts).open_elements) t ≡ small → are_small (after text rest (ts ++ t ∷ [])).rows ≡ small
more_small text rest ts t small f e =
    ap (λ (s : State). are_small s.rows) (run_append ts (t ∷ []) (first_state (start text rest)))
    ∙ (step_grows (after text rest ts) t).small ∙ (λ i. f i && e i)

-- once they are not, they stay so
pub never_small : (text rest : List ℕ) (us ts : List Token) → are_small (after text rest ts).rows ≡ false →
    are_small (after text rest (ts ++ us)).rows ≡ false
never_small text rest [] ts f = ap (λ zs. are_small (after text rest zs).rows) (append-nil ts) ∙ f
never_small text rest (u ∷ us) ts f =
    ap (λ zs. are_small (after text rest zs).rows) (sym (append_assoc ts (u ∷ []) us))
    ∙ never_small text rest us (ts ++ u ∷ [])
    (ap (λ (s : State). are_small s.rows) (run_append ts (u ∷ []) (first_state (start text rest)))
    ∙ (step_grows (after text rest ts) u).small ∙ ap (λ b. b && is_small_token (length (after text rest ts).open_elements) u) f)

-- one more token
pub more_follows : (text rest : List ℕ) (ts : List Token) (t : Token) (before behind : Builder) →
    Follows before (after text rest ts) → is_small_token (length (after text rest ts).open_elements) t ≡ true →
    step (builder_view before) t ≡ builder_view behind → Follows behind (after text rest (ts ++ t ∷ []))
more_follows text rest ts t before behind f e h = record {
  small = more_small text rest ts t true f.small e;
  view = sym h ∙ ap (λ z. step z t) f.view ∙ sym (run_append ts (t ∷ []) (first_state (start text rest)));
}

-- how many elements are open
-- a complete outline has no open element
pub none_open : (o : outlines.Outline) → is_complete o ≡ true → length o.names ≡ 0
none_open o h = by_names o.names h
  where
    by_names : (names : List (List ℕ)) → (not (is_some names) && o.begun) ≡ true → length names ≡ 0
    by_names [] k = refl
    by_names (name ∷ names) k = absurd (let clash : false ≡ true = k in cc)

pub no_items : (numbers : List ℕ) → length numbers ≡ 0 → numbers ≡ []
no_items [] h = refl
no_items (n ∷ numbers) h = absurd (omega arith)

pub builder_depth : (b : Builder) (s : State) → builder_view b ≡ s → length b.open_elements.items ≡ length s.open_elements
builder_depth b s e = sym (length-reverse b.open_elements.items) ∙ ap (λ (z : State). length z.open_elements) e

-- how long a token is that stands in front of the rest
pub token_length : (rest behind : List ℕ) (t : Token) → BeginsWith rest t behind → length rest - length behind ≡ length (print_token t)
token_length rest behind t b = let whole = ap length b.printed ∙ length-append (print_token t) behind in omega arith

pub empty_list : (xs : List ℕ) → (length xs == 0) ≡ true → xs ≡ []
empty_list [] h = refl
empty_list (x ∷ xs) h = absurd (let none : suc (length xs) ≡ 0 = grind arith in omega arith)

-- memory ran out, or the text spells nothing
pub no_token : (text now : List ℕ) (e : TokenFault) → (e ≡ tokens.NoMemory) ⊎ ((e ≡ tokens.Invalid) × NoTokens now) →
    (NoTokens now → (tree : Nodes) → ¬ (Spells text tree)) → IsNotKept text (fault_of e)
no_token text now e (inl memory) h = subst (λ z. IsNotKept text (fault_of z)) (sym memory) tt
no_token text now e (inr bad) h = subst (λ z. IsNotKept text (fault_of z)) (sym bad.0) (h bad.1)

pub not_taken : (text : List ℕ) (e : TreeFault) (P : Type 0) → (e ≡ faults.NoMemory) ⊎ ((e ≡ faults.BadXml) × P) →
    (P → (tree : Nodes) → ¬ (Spells text tree)) → IsNotKept text e
not_taken text e P (inl memory) h = subst (IsNotKept text) (sym memory) tt
not_taken text e P (inr bad) h = subst (IsNotKept text) (sym bad.0) (h bad.1)

-- all was read
module _ (text rest left : List ℕ) (ts : List Token) (o : outlines.Outline) (p : Progress text rest left ts o)
    (ended : left ≡ []) (complete : is_complete o ≡ true) where
  whole : Progress text rest [] ts o
  whole = subst (λ z. Progress text rest z ts o) ended p

  pub rows_read : (builder : Builder) → Follows builder (after text rest ts) → HasHead text rest → IsText text →
      IsRead text builder.rows.rows
  rows_read builder f head characters =
      subst (IsRead text) (ap (λ (s : State). s.rows) (sym f.view)) (read_whole text rest ts o head whole complete characters)

  pub rows_within : (builder : Builder) → Follows builder (after text rest ts) → IsWithinLimits (nodes_at 0 builder.rows.rows)
  rows_within builder f =
      subst (λ rows. IsWithinLimits (nodes_at 0 rows)) (ap (λ (s : State). s.rows) (sym f.view))
      ((small_is_within (after text rest ts).rows (whole_shaped text rest ts o whole complete)).0 f.small)

  pub rows_beyond : are_small (after text rest ts).rows ≡ false → HasHead text rest → IsNotKept text faults.XmlLimit
  rows_beyond beyond head characters = (
    (after text rest ts).rows,
    read_whole text rest ts o head whole complete characters,
    λ limits.
        let small : are_small (after text rest ts).rows ≡ true =
        (small_is_within (after text rest ts).rows (whole_shaped text rest ts o whole complete)).1 limits in
        let clash : false ≡ true = sym beyond ∙ small in
        cc,
  )

-- the fault of the rest of a text, behind a token that went beyond the limits, is that of the text
pub not_kept : (text rest now : List ℕ) (ts : List Token) (o : outlines.Outline) (e : TreeFault) → HasHead text rest → Progress text rest now ts o →
    are_small (after text rest ts).rows ≡ false → IsFaultBeyond o now e → IsNotKept text e
not_kept text rest now ts o faults.BadXml head p beyond none = spells_nothing text rest now ts o head p none
not_kept text rest now ts o faults.XmlLimit head p beyond found =
    let us = found.0 in
    rows_beyond text rest [] (ts ++ us) found.1 (progress_on text rest us now ts o found.1 p found.2 found.3) refl found.4
    (never_small text rest us ts beyond) head
not_kept text rest now ts o faults.BadNames head p beyond h = absurd h
not_kept text rest now ts o faults.DuplicateId head p beyond h = absurd h
not_kept text rest now ts o faults.NoMemory head p beyond h = tt

-- a text that is not kept is refused
pub refused_of : (text : List ℕ) (e : TreeFault) → IsText text → IsNotKept text e → IsRefused text e
refused_of text faults.BadXml characters h = h
refused_of text faults.XmlLimit characters h = let found = h characters in (nodes_at 0 found.0, found.1.spells, found.2)
refused_of text faults.BadNames characters h = absurd h
refused_of text faults.DuplicateId characters h = absurd h
refused_of text faults.NoMemory characters h = tt

-- the rows and their links are as before
pub still_linked : (b : Builder) (now : RowsView) → now.rows ≡ b.rows.rows → now.links ≡ b.rows.links → IsLinking b →
    AreLinkedSoFar (depths_of now.rows) now.links b.open_elements.items
still_linked b now rows links h =
    subst (λ (ls : List Link). AreLinkedSoFar (depths_of now.rows) ls b.open_elements.items) (sym links)
    (subst (λ (rs : List Row). AreLinkedSoFar (depths_of rs) b.rows.links b.open_elements.items) (sym rows) h)

-- A start tag: its name, its declarations, its attributes, and its end.
use Rattle.std.proofs.Common.{◌≡◌, ℕ, List, [], ◌∷◌, ◌++◌, Result, OnOk, OnErr, sym, ap, ◌∙◌, append_assoc}
use Rattle.std.proofs.lemmas.Result.{on_ok_weaker, on_err_weaker}
use Rattle.xml_spec.specs.Ascii.{less_than, greater_than}
use Rattle.canon_octets.specs.Places.{IsAppending, AppendsPart}
use Rattle.canon_octets.proofs.Appending.{on_err}
use Rattle.canon_octets.proofs.Underway.{IsUnderway, underway, further, completed, broken_off, last_broken_off}

module _ {S : Type 0} {R : S → S → List ℕ → Type 0} (law : IsAppending R) (start : S) (shown name declared attributes : List ℕ) (is : shown ≡ name) where
  -- the tag
  abbrev pub tag : List ℕ
  tag = ((less_than ∷ name ++ declared) ++ attributes) ++ greater_than ∷ []

  split : tag ≡ (less_than ∷ shown) ++ (declared ++ (attributes ++ greater_than ∷ []))
  split =
      append_assoc (less_than ∷ name ++ declared) attributes (greater_than ∷ [])
      ∙ append_assoc (less_than ∷ name) declared (attributes ++ greater_than ∷ [])
      ∙ ap (λ xs. (less_than ∷ xs) ++ (declared ++ (attributes ++ greater_than ∷ []))) (sym is)

  pub name_put : (a : S) → R start a (less_than ∷ shown) → IsUnderway R start a (declared ++ (attributes ++ greater_than ∷ [])) tag
  name_put a put =
      further law start start a (less_than ∷ shown) (declared ++ (attributes ++ greater_than ∷ [])) tag tag split (underway law start tag) put

  pub declared_put : (a b : S) → R start a (less_than ∷ shown) → R a b declared → IsUnderway R start b (attributes ++ greater_than ∷ []) tag
  declared_put a b put then =
      further law start a b declared (attributes ++ greater_than ∷ []) _ tag (λ _. declared ++ (attributes ++ greater_than ∷ [])) (name_put a put) then

  pub attributes_put : (a b c : S) → R start a (less_than ∷ shown) → R a b declared → R b c attributes → IsUnderway R start c (greater_than ∷ []) tag
  attributes_put a b c put then last =
      further law start b c attributes (greater_than ∷ []) _ tag (λ _. attributes ++ greater_than ∷ []) (declared_put a b put then) last

  pub name_err : {T E : Type 0} (r : Result T E) (a : S) → AppendsPart R start a (less_than ∷ shown) → OnErr r (AppendsPart R start a tag)
  name_err r a part =
      on_err r (broken_off law start start a (less_than ∷ shown) (declared ++ (attributes ++ greater_than ∷ [])) tag tag split (underway law start tag) part)

  pub declared_err : {T E : Type 0} (r : Result T E) (a b : S) → R start a (less_than ∷ shown) → AppendsPart R a b declared →
      OnErr r (AppendsPart R start b tag)
  declared_err r a b put part =
      on_err r
      (broken_off law start a b declared (attributes ++ greater_than ∷ []) _ tag (λ _. declared ++ (attributes ++ greater_than ∷ [])) (name_put a put) part)

  pub attributes_err : {T E : Type 0} (r : Result T E) (a b c : S) → R start a (less_than ∷ shown) → R a b declared → AppendsPart R b c attributes →
      OnErr r (AppendsPart R start c tag)
  attributes_err r a b c put then part =
      on_err r
      (broken_off law start b c attributes (greater_than ∷ []) _ tag (λ _. attributes ++ greater_than ∷ []) (declared_put a b put then) part)

  pub end_ok : {T E : Type 0} (r : Result T E) (a b c d : S) → R start a (less_than ∷ shown) → R a b declared → R b c attributes →
      OnOk r (R c d (greater_than ∷ [])) → OnOk r (R start d tag)
  end_ok r a b c d put then last end =
      on_ok_weaker r (completed law start c d (greater_than ∷ []) tag (attributes_put a b c put then last)) end

  pub end_err : {T E : Type 0} (r : Result T E) (a b c d : S) → R start a (less_than ∷ shown) → R a b declared → R b c attributes →
      OnErr r (AppendsPart R c d (greater_than ∷ [])) → OnErr r (AppendsPart R start d tag)
  end_err r a b c d put then last end =
      on_err_weaker r (last_broken_off law start c d (greater_than ∷ []) tag (attributes_put a b c put then last)) end

-- Nodes and their pieces.
use Rattle.std.proofs.Common.{◌≡◌, ◌≢◌, ℕ, zero, suc, ◌+◌, ◌-◌, ◌<◌, ◌≤◌, List, [], ◌∷◌, ◌++◌, length, take, drop, map, refl, sym, ap, ◌∙◌, subst, arith, append_assoc, get_or, codes, string_bytes, Vec, Global}
use Rattle.std.specs.List.{AllByRecursion}
use Rattle.std.proofs.lemmas.List.{drop-map, take-map, drop_all, map-append, append-nil, take-append-drop, take-append-le, drop-append-le, length-drop}
use Rattle.std.proofs.lemmas.List.{length-append, take_at, drop_at}
use Rattle.xml_spec.specs.Tree.{Attribute}
use Rattle.xml_spec.specs.Names.{AreDistinct}
use Rattle.xml_spec.specs.Characters.{IsNoColonName, IsText}
use Rattle.element_make.specs.Made.{MadeNodes, NothingMade, MadeElement, MadeText, joined, with_second, IsAny, alone, Made, AreMade, IsMade, IsMadeAttribute}
use Rattle.element_make.specs.Pieces.{Piece, StartPiece, TextPiece, EndPiece, pieces_before, pieces_of, content_of, first_length, depth_behind, one_and}
use Rattle.element_make.specs.Codes.{content_back}
use Rattle.element_make.specs.Views.{piece_view, piece_views, made_view, attribute_view, attribute_views, IsKept}
use Rattle.element_make.proofs.Lists.{next_shown, none_shown}
use Rattle.element_make.specs.declared.piece.Tag.{Tag}
use Rattle.element_make.specs.declared.piece.Attribute as declared
use Rattle.element_make.specs.declared.piece.Piece as kept
use Rattle.element_make.specs.declared.piece.Piece.TheVariants as kinds

pub pieces_append : (nodes : MadeNodes) (others : List Piece) → pieces_before nodes others ≡ pieces_of nodes ++ others
pieces_append NothingMade others = refl
pieces_append (MadeElement ns local attributes kids rest) others =
    let start = StartPiece ns local attributes in
    ap (λ ps. start ∷ ps)
    (pieces_append kids (EndPiece ∷ pieces_before rest others)
    ∙ ap (λ ps. pieces_of kids ++ EndPiece ∷ ps) (pieces_append rest others)
    ∙ sym (append_assoc (pieces_of kids) (EndPiece ∷ pieces_of rest) others)
    ∙ ap (λ ps. ps ++ others) (sym (pieces_append kids (EndPiece ∷ pieces_of rest))))
pieces_append (MadeText text rest) others = ap (λ ps. TextPiece text ∷ ps) (pieces_append rest others)

pub pieces_joined : (nodes more : MadeNodes) (others : List Piece) →
    pieces_before (joined nodes more) others ≡ pieces_before nodes (pieces_before more others)
pieces_joined NothingMade more others = refl
pieces_joined (MadeElement ns local attributes kids rest) more others =
    ap (λ ps. StartPiece ns local attributes ∷ pieces_before kids (EndPiece ∷ ps)) (pieces_joined rest more others)
pieces_joined (MadeText text rest) more others = ap (λ ps. TextPiece text ∷ ps) (pieces_joined rest more others)

-- the pieces of some nodes and then of others
pub joined_pieces : (nodes more : MadeNodes) → pieces_of (joined nodes more) ≡ pieces_of nodes ++ pieces_of more
joined_pieces nodes more = pieces_joined nodes more [] ∙ pieces_append nodes (pieces_of more)

pub made_joined : (nodes more : MadeNodes) → AreMade nodes → AreMade more → AreMade (joined nodes more)
made_joined NothingMade more h k = k
made_joined (MadeElement ns local attributes kids rest) more h k = (h.0, h.1, h.2, h.3, made_joined rest more h.4 k)
made_joined (MadeText text rest) more h k = (h.0, made_joined rest more h.1 k)

pub made_with_second : (nodes more : MadeNodes) → AreMade nodes → AreMade more → AreMade (with_second nodes more)
made_with_second NothingMade more h k = k
made_with_second (MadeElement ns local attributes kids rest) more h k = (h.0, h.1, h.2, h.3, made_joined more rest k h.4)
made_with_second (MadeText text rest) more h k = (h.0, made_joined more rest k h.1)

-- the end of an element inside another
end_inside : (depth : ℕ) (others : List Piece) → first_length (suc (suc depth)) (EndPiece ∷ others) ≡ suc (first_length (suc depth) others)
end_inside depth others =
    let one_less : suc (suc depth) - 1 ≡ suc depth = omega arith in
    ap (λ d. one_and d (first_length d others)) one_less

-- while an element is open, its content is passed over
passed : (nodes : MadeNodes) (depth : ℕ) (others : List Piece) →
    first_length (suc depth) (pieces_before nodes others) ≡ length (pieces_of nodes) + first_length (suc depth) others
passed NothingMade depth others = omega arith
passed (MadeElement ns local attributes kids rest) depth others =
    let behind = pieces_before rest others in
    let inside : first_length (suc (suc depth)) (pieces_before kids (EndPiece ∷ behind))
    ≡ length (pieces_of kids) + suc (first_length (suc depth) behind) =
    passed kids (suc depth) (EndPiece ∷ behind) ∙ ap (λ n. length (pieces_of kids) + n) (end_inside depth behind) in
    let outside : first_length (suc depth) behind ≡ length (pieces_of rest) + first_length (suc depth) others =
    passed rest depth others in
    let long : length (pieces_before kids (EndPiece ∷ pieces_of rest)) ≡ length (pieces_of kids) + suc (length (pieces_of rest)) =
    ap length (pieces_append kids (EndPiece ∷ pieces_of rest)) ∙ length-append (pieces_of kids) (EndPiece ∷ pieces_of rest) in
    omega (arith, inside, outside, long)
passed (MadeText text rest) depth others =
    let later : first_length (suc depth) (pieces_before rest others) ≡ length (pieces_of rest) + first_length (suc depth) others =
    passed rest depth others in
    omega arith

module _ (first second : List Piece) where
  front : take (length first) (first ++ second) ≡ first
  front = take_at first second (length first) refl

  back : drop (length first) (first ++ second) ≡ second
  back = drop_at first second (length first) refl

-- where the first node ends, others are put in
pub second_pieces : (nodes more : MadeNodes) → IsAny nodes →
    take (first_length 0 (pieces_of nodes)) (pieces_of nodes) ++ pieces_of more ++ drop (first_length 0 (pieces_of nodes)) (pieces_of nodes)
    ≡ pieces_of (with_second nodes more)
second_pieces NothingMade more any = absurd any
second_pieces (MadeElement ns local attributes kids rest) more any =
    let element = MadeElement ns local attributes kids NothingMade in
    let long : first_length 0 (pieces_of (MadeElement ns local attributes kids rest)) ≡ length (pieces_of element) =
    (let inside : first_length 1 (pieces_before kids (EndPiece ∷ pieces_of rest)) ≡ length (pieces_of kids) + 1 =
    passed kids 0 (EndPiece ∷ pieces_of rest) in
    let all : length (pieces_before kids (EndPiece ∷ [])) ≡ length (pieces_of kids) + 1 =
    ap length (pieces_append kids (EndPiece ∷ [])) ∙ length-append (pieces_of kids) (EndPiece ∷ []) in
    omega arith) in
    let split : pieces_of (MadeElement ns local attributes kids rest) ≡ pieces_of element ++ pieces_of rest = joined_pieces element rest in
    ap (λ n. take n (pieces_of (joined element rest)) ++ pieces_of more ++ drop n (pieces_of (joined element rest))) long
    ∙ ap (λ ps. take (length (pieces_of element)) ps ++ pieces_of more ++ drop (length (pieces_of element)) ps) split
    ∙ ap (λ ps. ps ++ pieces_of more ++ drop (length (pieces_of element)) (pieces_of element ++ pieces_of rest)) (front (pieces_of element) (pieces_of rest))
    ∙ ap (λ ps. pieces_of element ++ pieces_of more ++ ps) (back (pieces_of element) (pieces_of rest))
    ∙ append_assoc (pieces_of element) (pieces_of more) (pieces_of rest)
    ∙ ap (λ ps. pieces_of element ++ ps) (sym (joined_pieces more rest))
    ∙ sym (joined_pieces element (joined more rest))
second_pieces (MadeText text rest) more any = ap (λ ps. TextPiece text ∷ ps) (sym (joined_pieces more rest))

-- one more piece of the first node
module _ (content : List kept.Piece) (i depth : ℕ) (left : first_length 0 (piece_views content) ≡ i + first_length depth (drop i (piece_views content))) where
  pub piece_counted : (piece : kept.Piece) (now : ℕ) → i < length content → piece ≡ get_or content i piece →
      depth_behind depth (piece_view piece) ≡ now → (now ≡ 0 → ⊥) →
      first_length 0 (piece_views content) ≡ i + 1 + first_length now (drop (i + 1) (piece_views content))
  piece_counted piece now h is behind some =
      let here : first_length depth (drop i (piece_views content)) ≡ suc (first_length now (drop (i + 1) (piece_views content))) =
      ap (first_length depth) (next_shown piece_view content i piece h is)
      ∙ ap (λ d. one_and d (first_length d (drop (i + 1) (piece_views content)))) behind
      ∙ which now some (first_length now (drop (i + 1) (piece_views content))) in
      omega arith
    where
      which : (d : ℕ) → (d ≡ 0 → ⊥) → (n : ℕ) → one_and d n ≡ suc n
      which zero some n = absurd (some refl)
      which (suc d) some n = refl

  pub last_counted : (piece : kept.Piece) (now : ℕ) → i < length content → piece ≡ get_or content i piece →
      depth_behind depth (piece_view piece) ≡ now → now ≡ 0 → i + 1 ≡ first_length 0 (piece_views content)
  last_counted piece now h is behind none =
      let here : first_length depth (drop i (piece_views content)) ≡ 1 =
      ap (first_length depth) (next_shown piece_view content i piece h is)
      ∙ ap (λ d. one_and d (first_length d (drop (i + 1) (piece_views content)))) (behind ∙ none) in
      omega arith

  pub all_counted : i ≡ length content → length content ≡ first_length 0 (piece_views content)
  all_counted end =
      let here : first_length depth (drop i (piece_views content)) ≡ 0 =
      ap (first_length depth) (none_shown piece_view content i (omega arith)) in
      omega arith

-- the element of a tag with these kids
abbrev pub with_kids : Tag → MadeNodes → Made
with_kids tag nodes = record { ns = tag.ns; local = tag.local.now; attributes = attribute_views tag.attributes.items; kids = nodes }

module _ (tag : Tag) (content : List kept.Piece) (nodes : MadeNodes) (same : piece_views content ≡ pieces_of nodes) where
  pub kids_are : content_of (piece_views content) ≡ nodes
  kids_are = ap content_of same ∙ content_back nodes

  pub kept_with : IsMade (with_kids tag nodes) → IsKept tag content
  kept_with made = record {
    whole = same ∙ ap pieces_of (sym kids_are);
    made = subst (λ (k : MadeNodes). IsMade (with_kids tag k)) (sym kids_are) made;
  }

  pub seen_with : made_view tag content ≡ with_kids tag nodes
  seen_with = ap (with_kids tag) kids_are

-- a kid with its tags around its content
pub enclosed : (tag : Tag) (content started now : List kept.Piece) (kid : Made) → IsKept tag content → made_view tag content ≡ kid →
    started ≡ kinds.Start tag ∷ content → now ≡ started ++ kinds.End ∷ [] → piece_views now ≡ pieces_of (alone kid)
enclosed tag content started now kid kept seen begins ends =
    let start = StartPiece tag.ns tag.local.now (attribute_views tag.attributes.items) in
    ap piece_views (ends ∙ ap (λ ps. ps ++ kinds.End ∷ []) begins)
    ∙ ap (λ ps. start ∷ ps)
    (map-append piece_view content (kinds.End ∷ [])
    ∙ ap (λ ps. ps ++ EndPiece ∷ []) kept.whole
    ∙ sym (pieces_append (content_of (piece_views content)) (EndPiece ∷ [])))
    ∙ ap (λ (m : Made). pieces_of (alone m)) seen

module _ (content pieces now : List kept.Piece) (nodes more : MadeNodes) (old : piece_views content ≡ pieces_of nodes) (new : piece_views pieces ≡ pieces_of more) where
  -- pieces at the end
  pub added : now ≡ content ++ pieces → piece_views now ≡ pieces_of (joined nodes more)
  added is =
      ap piece_views is ∙ map-append piece_view content pieces ∙ ap (λ ps. ps ++ piece_views pieces) old
      ∙ ap (λ ps. pieces_of nodes ++ ps) new ∙ sym (joined_pieces nodes more)

  -- pieces behind those of the first node
  pub put_second : (place : ℕ) → IsAny nodes → place ≡ first_length 0 (piece_views content) →
      now ≡ take place content ++ pieces ++ drop place content → piece_views now ≡ pieces_of (with_second nodes more)
  put_second place any at is =
      ap piece_views is
      ∙ map-append piece_view (take place content ++ pieces) (drop place content)
      ∙ ap (λ ps. ps ++ piece_views (drop place content)) (map-append piece_view (take place content) pieces)
      ∙ ap (λ ps. ps ++ piece_views pieces ++ piece_views (drop place content)) (sym (take-map piece_view place content))
      ∙ ap (λ ps. take place (piece_views content) ++ piece_views pieces ++ ps) (sym (drop-map piece_view place content))
      ∙ ap (λ n. take n (piece_views content) ++ piece_views pieces ++ drop n (piece_views content)) at
      ∙ ap (λ ps. take (first_length 0 ps) ps ++ piece_views pieces ++ drop (first_length 0 ps) ps) old
      ∙ ap (λ ps. take (first_length 0 (pieces_of nodes)) (pieces_of nodes) ++ ps ++ drop (first_length 0 (pieces_of nodes)) (pieces_of nodes)) new
      ∙ second_pieces nodes more any

-- an element whose content is now changed by f
module _ (tag : Tag) (content now : List kept.Piece) (f : MadeNodes → MadeNodes) (same : piece_views now ≡ pieces_of (f (content_of (piece_views content)))) where
  pub still_kept : IsKept tag content → AreMade (f (content_of (piece_views content))) → IsKept tag now
  still_kept kept made =
      kept_with tag now (f (content_of (piece_views content))) same (kept.made.0, kept.made.1, kept.made.2, made, tt)

  pub seen_so : (old : Made) → made_view tag content ≡ old → made_view tag now ≡ record old { kids = f old.kids }
  seen_so old seen =
      seen_with tag now (f (content_of (piece_views content))) same ∙ ap (λ (m : Made). record m { kids = f m.kids }) seen

-- attributes with one more
all_more : {X : Type 0} (P : X → Type 0) (xs : List X) (y : X) → AllByRecursion P xs → P y → AllByRecursion P (xs ++ y ∷ [])
all_more P [] y h p = (p, tt)
all_more P (x ∷ xs) y h p = (h.0, all_more P xs y h.1 p)

distinct_more : {X K : Type 0} (f : X → K) (xs : List X) (y : X) → AreDistinct (map f xs) → AllByRecursion (λ x. f x ≢ f y) xs →
    AreDistinct (map f (xs ++ y ∷ []))
distinct_more f [] y h new = (tt, tt)
distinct_more {X} {K} f (x ∷ xs) y h new = (others xs h.0, distinct_more f xs y h.1 new.1)
  where
    others : (zs : List X) → AllByRecursion (λ z. f x ≢ z) (map f zs) → AllByRecursion (λ z. f x ≢ z) (map f (zs ++ y ∷ []))
    others [] k = (new.0, tt)
    others (z ∷ zs) k = (k.0, others zs k.1)

-- an element with one more attribute
module _ (tag : Tag) (content : List kept.Piece) (attribute : declared.Attribute) (attributes : Vec declared.Attribute Global) (name value : List ℕ) (named : attribute.name.now ≡ name)
    (valued : string_bytes attribute.value ≡ value) (added_to : attributes.items ≡ tag.attributes.items ++ attribute ∷ []) where
  views : attribute_views attributes.items ≡ attribute_views tag.attributes.items ++ record { name = name; value = value } ∷ []
  views =
      ap attribute_views added_to ∙ map-append attribute_view tag.attributes.items (attribute ∷ [])
      ∙ ap (λ n. attribute_views tag.attributes.items ++ record { name = n; value = string_bytes attribute.value } ∷ []) named
      ∙ ap (λ v. attribute_views tag.attributes.items ++ record { name = name; value = v } ∷ []) valued

  pub kept_with_attribute : IsKept tag content → IsNoColonName name → name ≢ codes "xmlns" → IsText value →
      AllByRecursion (λ (a : Attribute). a.name ≢ name) (attribute_views tag.attributes.items) →
      IsKept (record { ns = tag.ns; local = tag.local; attributes = attributes }) content
  kept_with_attribute kept is_name no_declaration is_text anew =
      let new : Attribute = record { name = name; value = value } in
      record {
        whole = kept.whole;
        made =
            subst (λ (given : List Attribute). IsMade (record { ns = tag.ns; local = tag.local.now; attributes = given; kids = content_of (piece_views content) }))
            (sym views) (
              kept.made.0,
              all_more IsMadeAttribute (attribute_views tag.attributes.items) new kept.made.1
                  (record { name = is_name; no_declaration = no_declaration; value = is_text }),
              distinct_more (λ (a : Attribute). a.name) (attribute_views tag.attributes.items) new kept.made.2 anew,
              kept.made.3,
              tt,
            );
      }

  pub seen_with_attribute : (old : Made) → made_view tag content ≡ old →
      made_view (record { ns = tag.ns; local = tag.local; attributes = attributes }) content
      ≡ record old { attributes = old.attributes ++ record { name = name; value = value } ∷ [] }
  seen_with_attribute old seen =
      ap (λ given. record { ns = tag.ns; local = tag.local.now; attributes = given; kids = content_of (piece_views content) }) views
      ∙ ap (λ (m : Made). record m { attributes = m.attributes ++ record { name = name; value = value } ∷ [] }) seen

-- a list that was put behind another and turned into its place
module _ {X : Type 0} (old put whole part turned : List X) (place behind : ℕ) (within : place ≤ length old) (count : behind ≡ length old - place)
    (is_whole : whole ≡ old ++ put) (is_part : part ≡ drop place whole) (is_turned : turned ≡ drop behind part ++ take behind part) where
  split : drop place whole ≡ drop place old ++ put
  split = ap (drop place) is_whole ∙ drop-append-le place old put within

  far : length (drop place old) ≡ behind
  far = omega (arith, length-drop place old)

  turned_is : turned ≡ put ++ drop place old
  turned_is =
      is_turned ∙ ap (λ xs. drop behind xs ++ take behind xs) (is_part ∙ split)
      ∙ ap (λ xs. xs ++ take behind (drop place old ++ put)) (drop_at (drop place old) put behind far)
      ∙ ap (λ xs. put ++ xs) (take_at (drop place old) put behind far)

  as_long : length turned ≡ length (drop place whole)
  as_long =
      omega (arith, ap length turned_is, length-append put (drop place old), ap length split, length-append (drop place old) put)

  abbrev front_part : List X
  front_part = take place whole ++ (turned ++ drop (length turned) (drop place whole))

  is_front : front_part ≡ take place whole ++ turned
  is_front =
      ap (λ xs. take place whole ++ (turned ++ xs)) (drop_all (length turned) (drop place whole) (omega (arith, as_long)))
      ∙ ap (λ xs. take place whole ++ xs) (append-nil turned)

  long : length front_part ≡ length whole
  long =
      ap length is_front ∙ length-append (take place whole) turned ∙ ap (λ k. length (take place whole) + k) as_long
      ∙ sym (length-append (take place whole) (drop place whole)) ∙ ap length (take-append-drop place whole)

  pub turned_in : (n : ℕ) → n ≡ length whole → take n (front_part ++ drop (length front_part) whole) ≡ take place old ++ put ++ drop place old
  turned_in n is_long =
      take_at front_part (drop (length front_part) whole) n (long ∙ sym is_long)
      ∙ is_front ∙ ap (λ xs. take place whole ++ xs) turned_is
      ∙ ap (λ xs. xs ++ (put ++ drop place old)) (ap (take place) is_whole ∙ take-append-le place old put within)
      ∙ sym (append_assoc (take place old) put (drop place old))

-- Plans, part by part.
use Rattle.std.proofs.Common.{◌≡◌, ℕ, ◌+◌, ◌<◌, ◌≤◌, Bool, true, false, ◌||◌, cond, Option, List, [], ◌∷◌, ◌++◌, length, map, filter, drop, get_or, bytes_eq, refl, sym, ap, ◌∙◌, append_assoc}
use Rattle.std.specs.List.{list_any}
use Rattle.std.proofs.lemmas.List.{drop_more, drop_all, append-nil, map_push}
use Rattle.std.proofs.lemmas.List.Folds.{list_any-append}
use Rattle.logout_turns.specs.declared.part.Part.{Part}
use Rattle.logout_turns.specs.declared.turns.Turn.{Turn}
use Rattle.peer_keys.specs.declared.peers.LogoutPeer.{LogoutPeer}
use Rattle.logout_fanout.specs.Plan.{can_be_asked, is_among, once_after, firsts_after, turn_of}

-- one text more
pub one_more_text : (texts : List (List ℕ)) (text key name : List ℕ) (known : Bool) → key ≡ text → known ≡ is_among name texts
    → cond (bytes_eq key name) true known ≡ is_among name (texts ++ text ∷ [])
one_more_text texts text key name known same is =
    ap (λ (k : List ℕ). cond (bytes_eq k name) true known) same ∙ ap (cond (bytes_eq text name) true) is
    ∙ either (bytes_eq text name) (is_among name texts) ∙ sym (list_any-append (λ other. bytes_eq other name) texts (text ∷ []))
  where
    either : (t b : Bool) → cond t true b ≡ (b || (t || false))
    either true true = refl
    either true false = refl
    either false true = refl
    either false false = refl

-- ---- the indexes of a provider

-- the indexes of the parts of a provider among these
abbrev pub listed : (peer : List ℕ) → List Part → List (List ℕ)
listed peer parts = map (λ part. part.index) (filter (λ part. bytes_eq part.peer peer) parts)

module _ (peer : List ℕ) (parts : List Part) (i : ℕ) (part : Part) (within : i < length parts) (is : part ≡ get_or parts i part) where
  next : drop i parts ≡ part ∷ drop (i + 1) parts
  next = drop_more parts i part within ∙ ap (λ p. p ∷ drop (i + 1) parts) (sym is)

  -- a part of another provider
  pub other_part : bytes_eq part.peer peer ≡ false → listed peer (drop i parts) ≡ listed peer (drop (i + 1) parts)
  other_part other = ap (listed peer) next ∙ rw other refl

  pub own_part : bytes_eq part.peer peer ≡ true → listed peer (drop i parts) ≡ part.index ∷ listed peer (drop (i + 1) parts)
  own_part own = ap (listed peer) next ∙ rw own refl

-- a text that was found before, and a new one
pub known_text : (found : List (List ℕ)) (text : List ℕ) (rest : List (List ℕ)) → is_among text found ≡ true
    → once_after found (text ∷ rest) ≡ once_after found rest
unfolding once_after
known_text found text rest known = rw known refl

pub new_text : (found : List (List ℕ)) (text : List ℕ) (rest : List (List ℕ)) → is_among text found ≡ false
    → found ++ once_after found (text ∷ rest) ≡ (found ++ text ∷ []) ++ once_after (found ++ text ∷ []) rest
unfolding once_after
new_text found text rest new = rw new (sym (append_assoc found (text ∷ []) (once_after (found ++ text ∷ []) rest)))

pub no_texts : (found : List (List ℕ)) → found ++ once_after found [] ≡ found
unfolding once_after
no_texts found = append-nil found

pub none_listed : (peer : List ℕ) (parts : List Part) (i : ℕ) → length parts ≤ i → listed peer (drop i parts) ≡ []
none_listed peer parts i past = ap (listed peer) (drop_all i parts past)

-- ---- the turns

-- the turns of the parts that are left, but of providers that have one
abbrev pub left_turns : (asker : Option (List ℕ)) (peers : List LogoutPeer) (all : List Part) (made : List Turn) → List Part → List Turn
left_turns asker peers all made parts =
    map (turn_of all) (firsts_after (map (λ (turn : Turn). turn.peer) made) (filter (can_be_asked asker peers) parts))

any_peer : (turns : List Turn) (peer : List ℕ) → is_among peer (map (λ (turn : Turn). turn.peer) turns) ≡ list_any (λ turn. bytes_eq turn.peer peer) turns
any_peer [] peer = refl
any_peer (turn ∷ turns) peer = ap (λ b. bytes_eq turn.peer peer || b) (any_peer turns peer)

module _ (asker : Option (List ℕ)) (peers : List LogoutPeer) (all : List Part) (made : List Turn) (i : ℕ) (part : Part)
    (within : i < length all) (is : part ≡ get_or all i part) where
  next_part : drop i all ≡ part ∷ drop (i + 1) all
  next_part = drop_more all i part within ∙ ap (λ p. p ∷ drop (i + 1) all) (sym is)

  pub not_asked : can_be_asked asker peers part ≡ false → left_turns asker peers all made (drop i all) ≡ left_turns asker peers all made (drop (i + 1) all)
  not_asked not_now = ap (left_turns asker peers all made) next_part ∙ rw not_now refl

  abbrev rest : List Part
  rest = filter (can_be_asked asker peers) (drop (i + 1) all)

  asked : can_be_asked asker peers part ≡ true
      → left_turns asker peers all made (drop i all) ≡ map (turn_of all) (firsts_after (map (λ (turn : Turn). turn.peer) made) (part ∷ rest))
  asked now = ap (left_turns asker peers all made) next_part ∙ rw now refl

  pub has_one : can_be_asked asker peers part ≡ true → list_any (λ turn. bytes_eq turn.peer part.peer) made ≡ true
      → left_turns asker peers all made (drop i all) ≡ left_turns asker peers all made (drop (i + 1) all)
  unfolding firsts_after
  has_one now known = asked now ∙ rw (any_peer made part.peer ∙ known) refl

  pub gets_one : can_be_asked asker peers part ≡ true → list_any (λ turn. bytes_eq turn.peer part.peer) made ≡ false
      → (more : List Turn) → more ≡ made ++ turn_of all part ∷ []
      → made ++ left_turns asker peers all made (drop i all) ≡ more ++ left_turns asker peers all more (drop (i + 1) all)
  unfolding firsts_after
  gets_one now new more same =
      let names : map (λ (turn : Turn). turn.peer) (made ++ turn_of all part ∷ []) ≡ map (λ (turn : Turn). turn.peer) made ++ part.peer ∷ [] =
      map_push (λ (turn : Turn). turn.peer) made (turn_of all part) in
      ap (λ l. made ++ l) (asked now ∙ rw (any_peer made part.peer ∙ new) refl)
      ∙ ap (λ known. made ++ turn_of all part ∷ map (turn_of all) (firsts_after known rest)) (sym names)
      ∙ sym (append_assoc made (turn_of all part ∷ []) (map (turn_of all) (firsts_after (map (λ (turn : Turn). turn.peer) (made ++ turn_of all part ∷ [])) rest)))
      ∙ ap (λ now. now ++ map (turn_of all) (firsts_after (map (λ (turn : Turn). turn.peer) now) rest)) (sym same)

pub none_left : (asker : Option (List ℕ)) (peers : List LogoutPeer) (all : List Part) (made : List Turn) (i : ℕ) → length all ≤ i
    → made ++ left_turns asker peers all made (drop i all) ≡ made
unfolding firsts_after
none_left asker peers all made i past = ap (λ parts. made ++ left_turns asker peers all made parts) (drop_all i all past) ∙ append-nil made

-- What reading on behind a token that went beyond the limits says.
use Rattle.std.proofs.Common.{◌≡◌, ℕ, true, false, List, [], ◌∷◌, ◌++◌, ◌⊎◌, inl, inr, Option, Some, None, refl, sym, ◌∙◌, ap, subst, append_assoc, append-nil, ◌<◌, ◌≤◌, length, length-append, arith}
use Rattle.std.specs.Option.{option_and_then}
use Rattle.xml_spec.specs.Ascii.{less_than, greater_than}
use Rattle.xml_spec.specs.Syntax.{Token, print_token, print_tokens}
use Rattle.xml_spec.specs.Tree.{Nodes}
use Rattle.xml_spec.specs.Document.{Spells}
use Rattle.xml_spec.specs.Laws.{BeginsWith}
use Rattle.xml_tokens.specs.Markup.{NoTokens, bare_tag}
use Rattle.xml_tokens.specs.Heads.{HasHead}
use Rattle.xml_tokens.specs.declared.token.TokenFault.{TokenFault}
use Rattle.xml_tokens.specs.declared.token.TokenFault.TheVariants as tokens
use Rattle.saml_tree.specs.Outlines.{Outline, next_outline, outline_of, first_outline, is_complete}
use Rattle.saml_tree.specs.Reads.{Reads, fault_of, NoneComplete}
use Rattle.saml_tree.specs.declared.node.TreeFault.{TreeFault}
use Rattle.saml_tree.specs.declared.node.TreeFault.TheVariants as faults
use Rattle.saml_tree.proofs.Counting.{token_some}
use Rattle.saml_tree.proofs.Outlines.{outline, outline_on}
use Rattle.saml_tree.proofs.Reading.{reads_more, reads_printed, reads_go_on, first_of, nothing, nothing_left, none_some, written_of, Progress, more_progress}

-- what was read of the rest, and the outline behind it
abbrev pub ReadOn : Outline → List ℕ → List ℕ → Outline → Type 0
ReadOn o rest now next = (ts : List Token) × Reads rest ts now × (outline_of o ts ≡ Some next)

-- one more token
pub read_more : (o : Outline) (rest now behind : List ℕ) (next last : Outline) (t : Token) → ReadOn o rest now next →
    BeginsWith now t behind → next_outline next t ≡ Some last → ReadOn o rest behind last
read_more o rest now behind next last t r b e = (
  r.0 ++ t ∷ [],
  reads_more r.0 rest now behind t r.1 b,
  outline_on r.0 (t ∷ []) o next r.2 ∙ ap (option_and_then (λ z. outline_of z [])) e,
)

reads_on : (ts us : List Token) (text middle rest : List ℕ) → Reads text ts middle → Reads middle us rest → Reads text (ts ++ us) rest
reads_on [] us text middle rest e r = subst (λ z. Reads z us rest) (sym e) r
reads_on (t ∷ ts) us text middle rest r s = (r.0, r.1, reads_on ts us r.0 middle rest r.2 s)

-- what is left is no longer
pub no_longer : (o : Outline) (rest now : List ℕ) (next : Outline) → ReadOn o rest now next → length now ≤ length rest
no_longer o rest now next r =
    let whole = ap length (reads_printed r.0 rest now r.1) ∙ length-append (print_tokens r.0) now in
    omega arith

-- behind a token it is shorter
pub shorter : (now behind : List ℕ) (t : Token) → BeginsWith now t behind → length behind < length now
shorter now behind t b =
    let some = token_some t b.valid in
    let whole = ap length b.printed ∙ length-append (print_token t) behind in
    omega arith

-- one token
pub read_one : (o : Outline) (now behind : List ℕ) (last : Outline) (t : Token) → BeginsWith now t behind → next_outline o t ≡ Some last →
    ReadOn o now behind last
read_one o now behind last t b e = read_more o now now behind o last t ([], refl, refl) b e

-- more tokens
pub read_all : (o : Outline) (rest now behind : List ℕ) (next last : Outline) → ReadOn o rest now next → ReadOn next now behind last →
    ReadOn o rest behind last
read_all o rest now behind next last r s =
    (r.0 ++ s.0, reads_on r.0 s.0 rest now behind r.1 s.1, outline_on r.0 s.0 o next r.2 ∙ s.2)

-- where nothing completes the outline of what was read, nothing completes the one that it began with
pub none_behind : (o : Outline) (rest now : List ℕ) (next : Outline) → ReadOn o rest now next → NoneComplete next now → NoneComplete o rest
none_behind o rest now next r none us valid printed whole =
    let onward = reads_go_on r.0 us rest now r.1 valid printed in
    none onward.later onward.valid onward.printed
    (sym (outline_on r.0 onward.later o next r.2) ∙ sym (ap (outline_of o) onward.joined) ∙ whole)

-- where the next token has no place, nothing completes the outline
pub stuck : (o : Outline) (rest now behind : List ℕ) (next : Outline) (t : Token) → ReadOn o rest now next →
    BeginsWith now t behind → next_outline next t ≡ None → NoneComplete o rest
stuck o rest now behind next t r b none us valid printed whole =
    let onward = reads_go_on r.0 us rest now r.1 valid printed in
    let first = first_of t now behind onward.later b onward.valid onward.printed in
    none_some (outline [] true)
    (sym (ap (outline_of o) (onward.joined ∙ ap (λ z. r.0 ++ z) first.1) ∙ outline_on r.0 (t ∷ first.0) o next r.2
    ∙ ap (option_and_then (λ z. outline_of z first.0)) none) ∙ whole)

-- where what is left is written as no tokens, nothing does
pub unwritten : (o : Outline) (rest now : List ℕ) (next : Outline) → ReadOn o rest now next → NoTokens now → NoneComplete o rest
unwritten o rest now next r none us valid printed whole =
    let onward = reads_go_on r.0 us rest now r.1 valid printed in
    none onward.later onward.valid onward.printed

-- where the text ends too soon, nothing does
pub unfinished : (o : Outline) (rest : List ℕ) (next : Outline) → ReadOn o rest [] next → is_complete next ≡ false → NoneComplete o rest
unfinished o rest next r incomplete us valid printed whole =
    let onward = reads_go_on r.0 us rest [] r.1 valid printed in
    let all = onward.joined ∙ ap (λ z. r.0 ++ z) (nothing_left onward.later onward.valid onward.printed) ∙ nothing r.0 in
    let same : Some next ≡ Some (outline [] true) = sym r.2 ∙ ap (outline_of o) (sym all) ∙ whole in
    let outlines : next ≡ outline [] true = cc in
    let clash : false ≡ true = sym incomplete ∙ ap is_complete outlines in
    cc

-- memory ran out, or nothing completes the outline
abbrev pub IsFaultOn : Outline → List ℕ → TreeFault → Type 0
IsFaultOn o rest e = (e ≡ faults.NoMemory) ⊎ ((e ≡ faults.BadXml) × NoneComplete o rest)

pub no_token_on : (o : Outline) (rest now : List ℕ) (e : TokenFault) → (e ≡ tokens.NoMemory) ⊎ ((e ≡ tokens.Invalid) × NoTokens now) →
    (NoTokens now → NoneComplete o rest) → IsFaultOn o rest (fault_of e)
no_token_on o rest now e (inl memory) h = inl (ap fault_of memory)
no_token_on o rest now e (inr bad) h = inr (ap fault_of bad.0, h bad.1)

pub not_taken_on : (o : Outline) (rest : List ℕ) (e : TreeFault) (P : Type 0) → (e ≡ faults.NoMemory) ⊎ ((e ≡ faults.BadXml) × P) →
    (P → NoneComplete o rest) → IsFaultOn o rest e
not_taken_on o rest e P (inl memory) h = inl memory
not_taken_on o rest e P (inr bad) h = inr (bad.0, h bad.1)

-- where nothing completes the outline of what was read, the text spells nothing
pub spells_nothing : (text rest now : List ℕ) (ts : List Token) (o : Outline) → HasHead text rest → Progress text rest now ts o →
    NoneComplete o now → (tree : Nodes) → ¬ (Spells text tree)
spells_nothing text rest now ts o head p none tree spelled =
    let w = written_of text rest tree head spelled in
    let onward = reads_go_on ts w.tokens rest now p.reads w.valid w.printed in
    none onward.later onward.valid onward.printed
    (sym (outline_on ts onward.later first_outline o p.outline) ∙ sym (ap (outline_of first_outline) onward.joined) ∙ w.complete)

-- more tokens, to the end of the text
pub progress_on : (text rest : List ℕ) (us : List Token) (now : List ℕ) (ts : List Token) (o last : Outline) → Progress text rest now ts o →
    Reads now us [] → outline_of o us ≡ Some last → Progress text rest [] (ts ++ us) last
progress_on text rest [] now ts o last p r e =
    let same : o ≡ last = cc in
    subst (λ z. Progress text rest [] z last) (sym (nothing ts))
    (subst (λ z. Progress text rest [] ts z) same (subst (λ z. Progress text rest z ts o) r p))
progress_on text rest (u ∷ us) now ts o last p r e =
    on_next (next_outline o u) refl e (λ next q. progress_on text rest us r.0 (ts ++ u ∷ []) next last q r.2)
  where
    on_next : (found : Option Outline) → next_outline o u ≡ found → option_and_then (λ next. outline_of next us) found ≡ Some last →
        ((next : Outline) → Progress text rest r.0 (ts ++ u ∷ []) next → outline_of next us ≡ Some last →
        Progress text rest [] ((ts ++ u ∷ []) ++ us) last) → Progress text rest [] (ts ++ u ∷ us) last
    on_next None none f onward = absurd (none_some last f)
    on_next (Some next) one f onward =
        subst (λ z. Progress text rest [] z last) (append_assoc ts (u ∷ []) us)
        (onward next (more_progress text rest now r.0 ts o next u p r.1 one) f)

-- what is left is the end of the text, of which the rest is the end
pub end_of : (text rest left front : List ℕ) (ts : List Token) → text ≡ front ++ rest → Reads rest ts left →
    (before : List ℕ) × (text ≡ before ++ left)
end_of text rest left front ts whole r = (
  front ++ print_tokens ts,
  whole ∙ ap (λ z. front ++ z) (reads_printed ts rest left r) ∙ sym (append_assoc front (print_tokens ts) left),
)

-- the name of a start tag alone stands behind its first sign
pub bare_name : (left name behind : List ℕ) → BeginsWith left (bare_tag name) behind → (x : List ℕ) × (left ≡ less_than ∷ (name ++ x))
bare_name left name behind b = (
  greater_than ∷ behind,
  b.printed ∙ ap (λ z. less_than ∷ ((z ++ greater_than ∷ []) ++ behind)) (append-nil (name ++ []) ∙ append-nil name)
      ∙ ap (λ z. less_than ∷ z) (append_assoc name (greater_than ∷ []) behind),
)

-- Texts one behind the other.
use Rattle.std.proofs.Common.{◌≡◌, ℕ, List, [], ◌∷◌, ◌++◌, refl, sym, ap, ◌∙◌, append_assoc}
use Rattle.std.specs.Char.{encode_utf8}
use Rattle.std.specs.Str.{encode_utf8_all}
use Rattle.std.proofs.lemmas.List.Folds.{list_all-append}
use Rattle.std.specs.Str.{chars}
use Rattle.xml_spec.specs.Characters.{IsText, IsNoColonName, is_char}
use Rattle.xml_spec.proofs.Valid.{name_shown}
use Rattle.metadata.specs.declared.peer.Role.{Role}
use Rattle.metadata.specs.declared.peer.Role.TheVariants.{Idp, Sp}
use Rattle.metadata.specs.Metadata.{descriptor}
use Rattle.xml_spec.proofs.Tests.{and_true}

encoded_append : (cs ds : List ℕ) → encode_utf8_all (cs ++ ds) ≡ encode_utf8_all cs ++ encode_utf8_all ds
encoded_append [] ds = refl
encoded_append (c ∷ cs) ds =
    ap (λ bytes. encode_utf8 c ++ bytes) (encoded_append cs ds) ∙ sym (append_assoc (encode_utf8 c) (encode_utf8_all cs) (encode_utf8_all ds))

pub text_append : (a b : List ℕ) → IsText a → IsText b → IsText (a ++ b)
text_append a b p q = record {
  characters = p.characters ++ q.characters;
  allowed = list_all-append is_char p.characters q.characters ∙ and_true _ _ p.allowed q.allowed;
  spelled = (λ i. p.spelled i ++ q.spelled i) ∙ sym (encoded_append p.characters q.characters);
}

-- the descriptor of a role has a name without a prefix
pub descriptor_name : (role : Role) → IsNoColonName (descriptor role)
unfolding chars encode_utf8
descriptor_name Idp = (name_shown _ refl, refl)
descriptor_name Sp = (name_shown _ refl, refl)

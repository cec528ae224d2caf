-- That what is put through a buffer is put together.
use Rattle.std.specs.Prelude.{◌≡◌, ◌++◌}
use Rattle.std.proofs.Common.{refl, sym, ◌∙◌, subst, append_assoc}
use Rattle.std.proofs.lemmas.List.{append-nil}
use Rattle.canon_octets.specs.Places.{IsAppending}
use Rattle.saml_commands.specs.Passing.{Passing, HasPut, Appends}

pub appends_by_passing : {S N : Type 0} → (name : S → N) → (passing : S → Passing) →
    IsAppending {S = S} (λ before after bytes. (name after ≡ name before) × Appends (passing before) (passing after) bytes)
appends_by_passing name passing = record {
  nothing = λ place. (refl, λ first front has. subst (λ xs. HasPut first xs (passing place)) (sym (append-nil front)) has);
  joined =
      λ before between after front back one other. (
        other.0 ∙ one.0,
        λ first bytes has. subst (λ xs. HasPut first xs (passing after)) (append_assoc bytes front back) (other.1 first (bytes ++ front) (one.1 first bytes has)),
      );
}

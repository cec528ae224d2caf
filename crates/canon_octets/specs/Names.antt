-- Names in two parts: Namespaces in XML 1.0, 4.
use Rattle.std.specs.Prelude.{ℕ, List, [], ◌∷◌, ◌++◌}
use Rattle.xml_spec.specs.Ascii.{colon}
use Rattle.canon_octets.specs.declared.tags.QualifiedName.{QualifiedName}

-- a name as it is written, of its prefix and its local part
abbrev pub joined_name : List ℕ → List ℕ → List ℕ
joined_name [] local = local
joined_name (b ∷ bytes) local = (b ∷ bytes) ++ colon ∷ local

abbrev pub written_name : QualifiedName → List ℕ
written_name name = joined_name name.prefix.now name.local.now

-- No two files of a config have one role.
use Rattle.std.proofs.Common.{◌≡◌, ℕ, Bool, true, false, ◌||◌, List, [], ◌∷◌, ◌++◌, Option, None, Some, IfSome, Ok, refl, sym, ◌∙◌, subst}
use Rattle.std.specs.List.{filter_map}
use Rattle.text_lines.specs.Lines.{said, with_lines}
use Rattle.provider_config.specs.declared.config.FileRole.{FileRole}
use Rattle.provider_config.specs.declared.config.FileRole.TheVariants as roles
use Rattle.provider_config.specs.declared.config.SpFile.{SpFile}
use Rattle.provider_config.specs.declared.line.Purpose.{Purpose}
use Rattle.provider_config.specs.declared.line.SpLine.{SpLine}
use Rattle.provider_config.specs.Line.{spelled}
use Rattle.provider_config.specs.Config.{Config, file, same_role, role_of, has_file, AreOfDifferentRoles, doubles, config_of, sp_config}
use Rattle.provider_config.specs.Shared.{with_line, pushed}
use Rattle.provider_config.proofs.Running.{named_before, made_of}
use Rattle.provider_config.proofs.Sharing.{filter_map-push, kept, of_lines}

-- ---- one more file

role_swapped : (a b : FileRole) → same_role a b ≡ same_role b a
role_swapped roles.Idp roles.Idp = refl
role_swapped roles.Idp b = refl
role_swapped roles.KeyIn roles.KeyIn = refl
role_swapped roles.KeyIn b = refl
role_swapped roles.KeyOut roles.KeyOut = refl
role_swapped roles.KeyOut b = refl
role_swapped roles.IdKey roles.IdKey = refl
role_swapped roles.IdKey b = refl
role_swapped roles.NextIn roles.NextIn = refl
role_swapped roles.NextIn b = refl
role_swapped roles.Policy roles.Policy = refl
role_swapped roles.Policy b = refl

neither : (a b : Bool) → (a || b) ≡ false → (a ≡ false) × (b ≡ false)
neither true b h = absurd (cc)
neither false b h = (refl, h)

both_false : (a b : Bool) → a ≡ false → b ≡ false → (a || b) ≡ false
both_false true b h k = absurd (cc)
both_false false b h k = k

not_named : (role : FileRole) (files : List SpFile) (last : SpFile) → has_file role files ≡ false → same_role (role_of last) role ≡ false → has_file role (files ++ last ∷ []) ≡ false
not_named role [] last h differs = both_false (same_role (role_of last) role) false differs refl
not_named role (named ∷ others) last h differs =
    let parts = neither (same_role (role_of named) role) (has_file role others) h in
    both_false (same_role (role_of named) role) (has_file role (others ++ last ∷ [])) parts.0 (not_named role others last parts.1 differs)

one_more : (files : List SpFile) (last : SpFile) → AreOfDifferentRoles files → has_file (role_of last) files ≡ false → AreOfDifferentRoles (files ++ last ∷ [])
one_more [] last h new = (refl, tt)
one_more (named ∷ others) last h new =
    let parts = neither (same_role (role_of named) (role_of last)) (has_file (role_of last) others) new in
    (not_named (role_of named) others last h.0 (role_swapped (role_of last) (role_of named) ∙ parts.0), one_more others last h.1 parts.1)

more : (files : List SpFile) (o : Option SpFile) → AreOfDifferentRoles files → IfSome o (λ last. has_file (role_of last) files ≡ false) → AreOfDifferentRoles (pushed files o)
more files None h new = h
more files (Some last) h new = one_more files last h new

-- ---- all lines

-- the files of these lines
abbrev AreDifferentIn : List SpLine → Type 0
AreDifferentIn lines = AreOfDifferentRoles (filter_map file lines)

not_before : (o : Option SpFile) (files : List SpFile) (b : Bool) → b ≡ false → IfSome o (λ named. has_file (role_of named) files ≡ b) → IfSome o (λ named. has_file (role_of named) files ≡ false)
not_before None files b is h = tt
not_before (Some named) files b is h = h ∙ is

line_more : (before : List SpLine) (line : SpLine) → AreDifferentIn before → doubles line before ≡ false → AreDifferentIn (before ++ line ∷ [])
line_more before line h new =
    subst AreOfDifferentRoles (sym (filter_map-push file before line))
    (more (filter_map file before) (file line) h (not_before (file line) (filter_map file before) (doubles line before) new (named_before line before)))

-- ---- a config

pub different_roles : (purpose : Purpose) (text : List ℕ) (config : Config) → sp_config purpose text ≡ Ok config → AreOfDifferentRoles config.files
different_roles purpose text config e =
    let (lines, h, whole) =
    of_lines config_of AreDifferentIn (with_lines (with_line (λ _. spelled purpose) doubles) [] (said text)) config
    (kept (λ _. spelled purpose) doubles (λ lines _. AreDifferentIn lines) (λ before line next others by new h. line_more before line h new) [] (said text) tt) e in
    subst AreOfDifferentRoles (sym (made_of lines config whole).files) h

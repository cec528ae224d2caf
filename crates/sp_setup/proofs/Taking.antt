-- What the bytes of a file add, and what they can't be used for.
use Rattle.std.proofs.Common.{ℕ, ◌≤◌, List, length, Option, inl, refl}
use Rattle.saml_outside.specs.Files.{File}
use Rattle.provider_config.specs.declared.config.FileRole.{FileRole}
use Rattle.provider_config.specs.declared.config.FileRole.TheVariants as roles
use Rattle.sp_setup.specs.declared.limits.TheConstants.{LEAST_KEY, GREATEST_KEY}
use Rattle.sp_setup.specs.declared.loaded.Loaded.{Loaded}
use Rattle.sp_setup.specs.Files.{whole, key_file}
use Rattle.sp_setup.specs.Setup.{load_file}
use Rattle.sp_setup.specs.Views.{limit_of, Loads}

-- ---- a key of messages

pub key_there : (told : Option (List File)) (name bytes : List ℕ) → (whole GREATEST_KEY name).gives told bytes → LEAST_KEY ≤ length bytes →
    (key_file name).gives told bytes
key_there told name bytes there long = (bytes, there, (refl, long))

-- ---- the file of a role

module _ (told : Option (List File)) where
  pub taken : (role : FileRole) (name bytes : List ℕ) (before after : Loaded) → (whole (limit_of role) name).gives told bytes → Loads role bytes before after →
      (load_file role name before).gives told after
  taken roles.Idp name bytes before after there (peer, read, is) = (peer, (bytes, there, read), is)
  taken roles.KeyIn name bytes before after there (long, is) = (bytes, (bytes, there, (refl, long)), is)
  taken roles.NextIn name bytes before after there (long, is) = (bytes, (bytes, there, (refl, long)), is)
  taken roles.KeyOut name bytes before after there (long, is) = (bytes, (bytes, there, (refl, long)), is)
  taken roles.IdKey name bytes before after there (long, is) = (bytes, (bytes, there, (refl, long)), is)
  taken roles.Policy name bytes before after there (rules, says, is) = (rules, (bytes, there, says), is)

  pub unread : (role : FileRole) (name : List ℕ) (before : Loaded) (file : List ℕ) (line : ℕ) → (whole (limit_of role) name).fails told file line →
      (load_file role name before).fails told file line
  unread roles.Idp name before file line h = inl (inl h)
  unread roles.KeyIn name before file line h = inl (inl h)
  unread roles.NextIn name before file line h = inl (inl h)
  unread roles.KeyOut name before file line h = inl (inl h)
  unread roles.IdKey name before file line h = inl (inl h)
  unread roles.Policy name before file line h = inl (inl h)

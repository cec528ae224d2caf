-- The definitions at worked examples.
use Rattle.std.proofs.Common.{◌≡◌, List, [], ◌∷◌, Option, Some, None, codes, inl, inr, refl, arith}
use Rattle.std.specs.Str.{chars}
use lib.Utf8.{encode}
use Rattle.saml_outside.specs.Files.{File}
use Rattle.provider_config.specs.declared.config.FileRole.TheVariants as roles
use Rattle.provider_config.specs.declared.config.SpFile.{SpFile}
use Rattle.provider_config.specs.declared.config.SpFile.TheVariants.{One, Registry}
use Rattle.provider_config.specs.declared.config.Times.{Times}
use Rattle.sp_setup.specs.Config.{next_of}
use Rattle.sp_setup.specs.Files.{in_order, key_file, id_key_file}
use Rattle.sp_setup.specs.Setup.{nothing, load_file, load}

-- a file of 16 bytes, and one of 15
abbrev files : Option (List File)
files =
    Some (record { name = codes "a"; bytes = codes "sixteen bytes it" } ∷ record { name = codes "b"; bytes = codes "fifteen bytes.." } ∷ [])

-- a policy of which the second line is bad, and one without rules
abbrev policy_files : Option (List File)
policy_files = Some (record { name = codes "p"; bytes = codes "a deny /app\nb permit /app\n" } ∷ record { name = codes "q"; bytes = [] } ∷ [])

abbrev named : List SpFile
named = One (record { role = roles.KeyIn; name = codes "a" }) ∷ One (record { role = roles.KeyOut; name = codes "b" }) ∷ []

-- 16 bytes make a key of messages, and 15 none; neither makes the key of IDs
keys : (key_file (codes "a")).gives files (codes "sixteen bytes it") × (key_file (codes "b")).fails files (codes "b") 0
    × (id_key_file (codes "a")).fails files (codes "a") 0
keys = (
  (codes "sixteen bytes it", (omega arith, refl), (refl, omega arith)),
  inr (codes "fifteen bytes..", (omega arith, refl), (refl, (refl, λ h. omega (arith, h)))),
  inr (codes "sixteen bytes it", (omega arith, refl), (refl, (refl, λ e. omega (arith, e)))),
)

-- a bad line of a policy is told by its number; one without rules can be used
policies : (load_file roles.Policy (codes "p") nothing).fails policy_files (codes "p") 2
    × (load_file roles.Policy (codes "q") nothing).gives policy_files (record nothing { policy = Some [] })
unfolding chars encode
policies = (
  inl (inr (codes "a deny /app\nb permit /app\n", (omega arith, refl), (refl, refl))),
  ([], ([], (omega arith, refl), refl), refl),
)

-- the second file is the first that can't be used
second : (in_order load named nothing).fails files (codes "b") 0
second =
    inr (
      record nothing { key_in = Some (codes "sixteen bytes it") },
      (codes "sixteen bytes it", (codes "sixteen bytes it", (omega arith, refl), (refl, omega arith)), refl),
      inl (inl (inr (codes "fifteen bytes..", (omega arith, refl), (refl, (refl, λ h. omega (arith, h)))))),
    )

-- an absent file comes before those behind it
absent : (in_order load (One (record { role = roles.Idp; name = codes "c" }) ∷ named) nothing).fails files (codes "c") 0
absent = inl (inl (inl (refl, refl, inl (refl, refl))))

-- the key of a registry is told by its own name, where it is absent or too short, whatever the registry holds
registry_key : (in_order load (Registry (record { file = codes "a"; key = codes "c"; entity = codes "e" }) ∷ []) nothing).fails files (codes "c") 0
    × (in_order load (Registry (record { file = codes "a"; key = codes "b"; entity = codes "e" }) ∷ []) nothing).fails files (codes "b") 0
registry_key = (
  inl (inr (codes "sixteen bytes it", (omega arith, refl), inl (inl (refl, refl, inl (refl, refl))))),
  inl (inr (codes "sixteen bytes it", (omega arith, refl), inl (inr (codes "fifteen bytes..", (omega arith, refl), (refl, (refl, λ h. omega (arith, h))))))),
)

-- a key takes over at its moments
abbrev times : Times
times = record { from = 5; until = 9 }

next : (next_of (Some times) (Some (codes "k")) ≡ Some (record { key = codes "k"; from = 5; until = 9 })) × (next_of None (Some (codes "k")) ≡ None)
next = (refl, refl)

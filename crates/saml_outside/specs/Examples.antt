-- The definitions at worked examples.
use Rattle.std.specs.Prelude.{◌≡◌, ℕ, ◌-◌, ◌^◌, List, [], ◌∷◌, Option, None, Some, codes, refl}
use Rattle.saml_outside.specs.Counts.{one_more}
use Rattle.saml_outside.specs.Files.{File, answer_of, bytes_of}
use Rattle.saml_outside.specs.InMemory.{FilesInMemory, after_read}
use Rattle.saml_outside.specs.Sinks.{then_bytes}
use Rattle.saml_outside.specs.declared.reading.FileRead.TheVariants.{Whole, Absent, TooLong}

-- a count stays at its end
counts : (one_more 0 ≡ 1) × (one_more (2 ^ 64 - 2) ≡ 2 ^ 64 - 1) × (one_more (2 ^ 64 - 1) ≡ 2 ^ 64 - 1)
counts = (refl, refl, refl)

-- three files, two of one name: the one in front counts
abbrev three : List File
three =
    record { name = codes "a"; bytes = 1 ∷ [] }
    ∷ record { name = codes "b"; bytes = 2 ∷ 3 ∷ [] }
    ∷ record { name = codes "a"; bytes = 4 ∷ [] }
    ∷ []

contents : (bytes_of three (codes "a") ≡ Some (1 ∷ [])) × (bytes_of three (codes "b") ≡ Some (2 ∷ 3 ∷ [])) × (bytes_of three (codes "c") ≡ None)
contents = (refl, refl, refl)

-- a file of two bytes is read whole where the limit is 2, and is too long where it is 1
answers : (answer_of (Some (2 ∷ 3 ∷ [])) 2 ≡ (Whole, 2 ∷ 3 ∷ [])) × (answer_of (Some (2 ∷ 3 ∷ [])) 1 ≡ (TooLong, [])) × (answer_of None 9 ≡ (Absent, []))
answers = (refl, refl, refl)

-- the second call from now fails, and no call after it
abbrev now : FilesInMemory
now = record { files = []; failing = 2; faults = 7 }

calls : (after_read now ≡ record now { failing = 1 }) × (after_read (after_read now) ≡ record now { failing = 0; faults = 8 }) × (after_read (after_read (after_read now)) ≡ record now { failing = 0; faults = 8 })
calls = (refl, refl, refl)

-- a sink that tells, and one that does not
taken : (then_bytes (Some (1 ∷ [])) (2 ∷ 3 ∷ []) ≡ Some (1 ∷ 2 ∷ 3 ∷ [])) × (then_bytes None (2 ∷ []) ≡ None)
taken = (refl, refl)

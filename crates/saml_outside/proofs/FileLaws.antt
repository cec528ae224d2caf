-- Laws of files.
use Rattle.std.proofs.Common.{◌≡◌, ◌≢◌, ℕ, ◌<◌, ◌≤◌, Bool, true, false, List, [], ◌∷◌, length, Option, None, Some, IsSomeAnd, refl, sym, arith}
use Rattle.std.specs.Str.{bytes_eq}
use Rattle.std.proofs.lemmas.Slice.Eq.{bytes_eq-Decides}
use Rattle.std.proofs.lemmas.Bool.Decides.{nat_tests}
use Rattle.saml_outside.specs.Files.{File, Reads, answer_of, bytes_of}
use Rattle.saml_outside.specs.declared.reading.FileRead.{FileRead}
use Rattle.saml_outside.specs.declared.reading.FileRead.TheVariants.{Whole, Absent, TooLong, Failed, NoMemory}

too_long : (content : Option (List ℕ)) (limit : ℕ) → IsSomeAnd content (λ bytes. limit < length bytes) → answer_of content limit ≡ (TooLong, [])
too_long None limit h = absurd h
too_long (Some bytes) limit h = grind (arith, nat_tests)

whole : (bytes : List ℕ) (limit : ℕ) → length bytes ≤ limit → answer_of (Some bytes) limit ≡ (Whole, bytes)
whole bytes limit h = grind (arith, nat_tests)

pub decided : (files : List File) (name into : List ℕ) (limit : ℕ) (answer : FileRead) → Reads (Some files) name limit answer into → answer ≢ Failed → answer ≢ NoMemory → (answer, into) ≡ answer_of (bytes_of files name) limit
decided files name into limit Whole h works room = rw h.1 (sym (whole into limit h.0))
decided files name into limit Absent h works room = rw (h.0, h.1) refl
decided files name into limit TooLong h works room = rw h.0 (sym (too_long (bytes_of files name) limit h.1))
decided files name into limit Failed h works room = absurd (works refl)
decided files name into limit NoMemory h works room = absurd (room refl)

same_name : (name : List ℕ) → bytes_eq name name ≡ true
same_name name = (bytes_eq-Decides name name).1 refl

pub hides : (f : File) (fs : List File) → bytes_of (f ∷ fs) f.name ≡ Some f.bytes
hides f fs = rw (same_name f.name) refl

other_name : (b : Bool) → (b ≡ true → ⊥) → b ≡ false
other_name true h = absurd (h refl)
other_name false h = refl

pub others : (f : File) (fs : List File) (name : List ℕ) → f.name ≢ name → bytes_of (f ∷ fs) name ≡ bytes_of fs name
others f fs name differ =
    rw (other_name (bytes_eq f.name name) (λ e. differ ((bytes_eq-Decides f.name name).0 e))) refl

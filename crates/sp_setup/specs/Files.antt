-- Files that are read one after the other: what they give, or the first of them that can't be used. What a file holds is judged before the
-- next one is read.
use Rattle.std.specs.Prelude.{◌≡◌, ℕ, ◌≤◌, ◌⊎◌, List, [], ◌∷◌, length, Option, None, Some, Result, Ok, Err}
use Rattle.xml_spec.specs.declared.TheConstants.{MAX_DOCUMENT_LENGTH}
use Rattle.saml_outside.specs.Files.{File, Reads, IsUnread}
use Rattle.saml_outside.specs.declared.reading.FileRead.TheVariants.{Whole}
use Rattle.metadata.specs.Faults as metadata
use Rattle.metadata.specs.declared.fault.MetaFault.{MetaFault}
use Rattle.metadata.specs.declared.peer.Peer.{Peer}
use Rattle.metadata.specs.declared.peer.Role.{Role}
use Rattle.sp_setup.specs.declared.limits.TheConstants.{LEAST_KEY, GREATEST_KEY, ID_KEY}

-- READING

-- What reading files comes to, by what files there are: it gives this, or it fails at this file, for this line of it, 0 for the whole.
pub record Reading (X : Type 0) : Type 1 where
  pub gives : Option (List File) → X → Type 0
  pub fails : Option (List File) → (file : List ℕ) → (line : ℕ) → Type 0

-- the bytes of the file of this name, which is there and has at most so many
abbrev pub whole : (limit : ℕ) → (name : List ℕ) → Reading (List ℕ)
whole limit name = record {
  gives = λ told bytes. Reads told name limit Whole bytes;
  fails = λ told file line. (file ≡ name) × (line ≡ 0) × IsUnread told name limit;
}

-- what is said of what was read of this file, or the line for which it can't be used
abbrev pub judged : {X : Type 0} → (name : List ℕ) → (IsSaid : Result X ℕ → Type 0) → Reading X
judged name IsSaid = record { gives = λ told x. IsSaid (Ok x); fails = λ told file line. (file ≡ name) × IsSaid (Err line) }

-- no file: it gives this
abbrev pub only : {X : Type 0} → X → Reading X
only x = record { gives = λ told given. given ≡ x; fails = λ told file line. ⊥ }

-- no file: it gives what was read before
abbrev pub known : {X : Type 0} → Option X → Reading X
known found = record { gives = λ told x. found ≡ Some x; fails = λ told file line. ⊥ }

-- no file: of the one that was read no line is bad
abbrev pub no_line : (name : List ℕ) → Option ℕ → Reading (Unit {0})
no_line name bad = record { gives = λ told x. bad ≡ None; fails = λ told file line. (file ≡ name) × (bad ≡ Some line) }

-- the first of these, and then those that follow on what they give
infixl 10 ◌>>=◌
abbrev pub ◌>>=◌ : {X Y : Type 0} → Reading X → (X → Reading Y) → Reading Y
◌>>=◌ {X} first next = record {
  gives = λ told y. (x : X) × first.gives told x × (next x).gives told y;
  fails = λ told file line. first.fails told file line ⊎ ((x : X) × first.gives told x × (next x).fails told file line);
}

-- the files of these lines, in order, behind what was read before
abbrev pub in_order : {L X : Type 0} → (L → X → Reading X) → List L → X → Reading X
in_order of_line [] before = only before
in_order of_line (line ∷ others) before = of_line line before >>= in_order of_line others

-- WHAT FILES SAY

-- a file of at most so many bytes, of which this is said
abbrev pub file_of : {X : Type 0} → (limit : ℕ) → (IsSaid : List ℕ → Result X ℕ → Type 0) → (name : List ℕ) → Reading X
file_of limit IsSaid name = whole limit name >>= λ bytes. judged name (IsSaid bytes)

-- a text of at most so many bytes, by its grammar
abbrev pub text_of : {X : Type 0} → (limit : ℕ) → (says : List ℕ → Result X ℕ) → (name : List ℕ) → Reading X
text_of limit says = file_of limit (λ bytes said. says bytes ≡ said)

-- the key that bytes are, where they are enough
abbrev pub IsKey : (AreEnough : ℕ → Type 0) → List ℕ → Result (List ℕ) ℕ → Type 0
IsKey AreEnough bytes (Ok key) = (key ≡ bytes) × AreEnough (length bytes)
IsKey AreEnough bytes (Err line) = (line ≡ 0) × ¬ (AreEnough (length bytes))

-- a key of messages has 16 bytes at least
abbrev pub key_file : (name : List ℕ) → Reading (List ℕ)
key_file = file_of GREATEST_KEY (IsKey (λ count. LEAST_KEY ≤ count))

-- the key of IDs has 32
abbrev pub id_key_file : (name : List ℕ) → Reading (List ℕ)
id_key_file = file_of GREATEST_KEY (IsKey (λ count. count ≡ ID_KEY))

-- the provider of this role that metadata describes
abbrev pub IsDescribed : Role → List ℕ → Result Peer ℕ → Type 0
IsDescribed role bytes (Ok peer) = metadata.IsRead bytes role (Ok peer)
IsDescribed role bytes (Err line) =
    (line ≡ 0) × ((fault : MetaFault) × (metadata.fault_of fault ≡ Some fault) × metadata.IsRefused bytes role fault)

abbrev pub metadata_file : Role → (name : List ℕ) → Reading Peer
metadata_file role = file_of MAX_DOCUMENT_LENGTH (IsDescribed role)

-- What a fault says.
use Rattle.std.proofs.Common.{◌≡◌, ℕ, ◌≤◌, List, Option, Result, Ok, Err, IfOk, IfErr, inl, sym, subst, arith}
use Rattle.std.specs.Prelude.{IsErrAnd}
use Rattle.saml_outside.specs.Files.{File}
use Rattle.saml_outside.specs.Counts.{Rose}
use Rattle.sp_setup.specs.declared.fault.SetupFault.{SetupFault}
use Rattle.sp_setup.specs.declared.fault.SetupFault.TheVariants as faults
use Rattle.sp_setup.specs.Faults.{IsFaultOf, IsBad}
use Rattle.sp_setup.specs.Files.{Reading, ◌>>=◌}

pub if_ok_map : {T E : Type 0} (P Q : T → Type 0) (r : Result T E) → ((x : T) → P x → Q x) → IfOk r P → IfOk r Q
if_ok_map P Q (Ok x) f h = f x h
if_ok_map P Q (Err e) f h = h

pub if_err_map : {T E : Type 0} (P Q : E → Type 0) (r : Result T E) → ((e : E) → P e → Q e) → IfErr r P → IfErr r Q
if_err_map P Q (Ok x) f h = h
if_err_map P Q (Err e) f h = f e h

pub if_err_at : {T E : Type 0} (P : E → Type 0) (r : Result T E) (e : E) → r ≡ Err e → P e → IfErr r P
if_err_at P r e is h = subst (λ r. IfErr r P) (sym is) h

-- what rose from a later count rose from an earlier one
pub rose_from : (before middle now : ℕ) → before ≤ middle → Rose middle now → Rose before now
rose_from before middle now h rose = omega (arith, h, rose)

-- the file and the line that are told are right
pub told : (IsRight : List ℕ → ℕ → Type 0) (before now : ℕ) (file : List ℕ) (line : ℕ) (fault : SetupFault) → IsRight file line → IsBad file line fault → IsFaultOf IsRight before now fault
told IsRight before now file line (faults.BadFile f n) right h = subst (λ l. IsRight f l) (sym h.1) (subst (λ g. IsRight g line) (sym h.0) right)
told IsRight before now file line faults.ReadFault right h = absurd h
told IsRight before now file line faults.NoMemory right h = tt

-- what is told of a part, from a later count on, holds of the whole
pub wider : (P Q : List ℕ → ℕ → Type 0) (before middle now : ℕ) (fault : SetupFault) → before ≤ middle → ((file : List ℕ) (line : ℕ) → P file line → Q file line) → IsFaultOf P middle now fault → IsFaultOf Q before now fault
wider P Q before middle now (faults.BadFile file line) le f h = f file line h
wider P Q before middle now faults.ReadFault le f h = rose_from before middle now le h
wider P Q before middle now faults.NoMemory le f h = tt

-- what holds of the error that is handed on holds of the error
pub handed_on : {T E : Type 0} (P : E → Type 0) (result : Result T E) (e : E) → IsErrAnd result (λ error. error ≡ e) → P e → IfErr result P
handed_on P (Ok x) e h is = tt
handed_on P (Err error) e h is = subst P (sym h) is

-- what is told of the first files that are read is told of all
pub first_fails : {X Y : Type 0} (held : Option (List File)) (first : Reading X) (next : X → Reading Y) (before now : ℕ) (fault : SetupFault) →
    IsFaultOf (first.fails held) before now fault → IsFaultOf ((first >>= next).fails held) before now fault
first_fails held first next before now fault h =
    wider (first.fails held) ((first >>= next).fails held) before before now fault (omega arith) (λ file line bad. inl bad) h

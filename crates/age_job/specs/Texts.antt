-- The texts of faults, which follow `agep: ` on standard error.
use Rattle.std.specs.Prelude.{◌++◌, List, ℕ, codes, if◌then◌else◌}
use Rattle.std.specs.Str.{bytes_eq}
use Rattle.age_job.specs.Names.{escaped_name}
use Rattle.age_job.specs.declared.fault.Fault.{Fault}
use Rattle.age_job.specs.declared.fault.Fault.TheVariants as fault
use Rattle.age_job.specs.declared.file_names.Name.{Name}
use Rattle.age_job.specs.declared.file_names.Role.{Role}
use Rattle.age_job.specs.declared.file_names.Role.TheVariants as role

abbrev pub role_words : (role : Role) → List ℕ
role_words role.Input = codes "IN"
role_words role.Passphrase = codes "passphrase file"
role_words role.Key = codes "key file"
role_words role.NewPassphrase = codes "new passphrase file"
role_words role.NewKey = codes "new key file"
role_words role.Seed = codes "seed file"
role_words role.FileKey = codes "file key file"

abbrev pub role_text : (role : Role) → List ℕ
role_text role.Input = codes "IN"
role_text role = codes "the " ++ role_words role

abbrev pub name_text : (name : Name) → List ℕ
name_text name = escaped_name name.0.now

abbrev pub fault_text : (fault : Fault) → List ℕ
fault_text fault.Read = codes "read failed"
fault_text fault.Write = codes "write failed"
fault_text fault.OutOfMemory = codes "out of memory"
fault_text fault.KeyChoice = codes "give one of -p and -k"
fault_text fault.NewKeyChoice = codes "give one of -P and -K"
fault_text (fault.CannotOpen name) = codes "cannot open " ++ name_text name
fault_text (fault.CannotCreate name) = codes "cannot create " ++ name_text name
fault_text (fault.Unidentified name) =
    codes "cannot tell which file " ++ name_text name ++ codes " is"
fault_text fault.AtomicAlone = codes "--atomic needs -o"
fault_text (fault.OutputExists name) = codes "OUT exists: " ++ name_text name
fault_text (fault.OutputIsSpecial name) = codes "OUT is not a regular file: " ++ name_text name
fault_text (fault.NewFileExists name) =
    name_text name ++ codes " exists: another run is writing it, or was killed"
fault_text (fault.OutputIsBusy name) = codes "another run is writing OUT: " ++ name_text name
fault_text (fault.OutputIsRead role name) =
    codes "OUT is also " ++ role_text role ++ codes ": " ++ name_text name
fault_text (fault.StandardInputTwice one other) =
    codes "standard input cannot be " ++ (if bytes_eq (role_words one) (role_words other)
    then role_text one ++ codes " twice"
    else codes "both " ++ role_text one ++ codes " and " ++ role_text other)
fault_text fault.KeyLength = codes "key file must hold 32 bytes"
fault_text fault.SeedLength = codes "seed file must hold 48 bytes"
fault_text fault.FileKeyLength = codes "file key file must hold 16 bytes"
fault_text fault.PassphraseLength = codes "passphrase file is too long"
fault_text fault.NoPassphrase = codes "passphrase file is empty"
fault_text fault.UntypedPassphrase =
    codes "passphrase ends in CR or LF, or begins with a byte-order mark"
fault_text fault.OutputIsTerminal = codes "standard output is a terminal"

-- A secret read from the files that the options choose is a secret of these options.
use Rattle.std.proofs.Common.{List, Option, None, Some, arith}
use Rattle.std.specs.Prelude.{String}
use Rattle.age_job.specs.declared.secret.Secret.{Secret}
use Rattle.age_job.specs.declared.secret.Secret.TheVariants.{Passphrase, Keys}
use Rattle.age_job.specs.declared.small_files.SecretFiles.{SecretFiles}
use Rattle.age_job.specs.declared.small_files.SecretFiles.TheVariants as files
use Rattle.age_job.specs.Secret.{IsChoice, IsReadFrom, IsSecretOf}

pub chosen : {Z : Type 0} (pass : Option (String Z)) (passes : List (String Z)) (key : Option (String Z))
    (keys : List (String Z)) (from : SecretFiles) (secret : Secret)
    → IsChoice pass passes key keys from → IsReadFrom from secret → IsSecretOf pass passes key keys secret
chosen (Some name) passes None keys (files.Passphrase first rest) (Passphrase bytes others) is read =
    omega (arith, read, is.0)
chosen (Some name) passes None keys (files.Passphrase first rest) (Keys some) is read = absurd read
chosen (Some name) passes None keys (files.Keys first rest) secret is read = absurd is
chosen None passes (Some name) keys (files.Keys first rest) (Keys some) is read = (read.0, omega (arith, is.0))
chosen None passes (Some name) keys (files.Keys first rest) (Passphrase bytes others) is read = absurd read
chosen None passes (Some name) keys (files.Passphrase first rest) secret is read = absurd is
chosen None passes None keys from secret is read = absurd is
chosen (Some name) passes (Some other) keys from secret is read = absurd is

use Rattle.fs_json.proofs.Base64Forms.{found, only}
use Rattle.fs_json.proofs.binary.base64_forms.Goals as goal

pub returns : goal.returns
returns c = λ text b bytes wide. (found text b bytes, only text b bytes wide)

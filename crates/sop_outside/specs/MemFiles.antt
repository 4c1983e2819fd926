-- Files in memory, as contracts see them.
use Rattle.std.specs.Prelude.{ℕ, List, [], refl}
use Rattle.std.specs.FinMap as finite
use Rattle.std.specs.Coded.{Coded, code_by, coded×, coded_list, coded_ℕ}
use Rattle.sop_outside.specs.Load.{Names}

-- The bytes of each file by its name, the loads that fail by their numbers from 1, how many loads there were, and how many of them failed, found no file, and found one too long.
pub record FilesInMemory : Type 0 where
  pub names : Names
  pub failing : List ℕ
  pub loads : ℕ
  pub faults : ℕ
  pub misses : ℕ
  pub overs : ℕ

-- No files, no load that fails, and no load so far.
abbrev pub no_files : FilesInMemory
no_files = record { names = finite.empty; failing = []; loads = 0; faults = 0; misses = 0; overs = 0 }

-- How contracts tell such values apart: as the tuples of their fields.
abbrev pub files_code : Coded FilesInMemory
files_code =
    code_by (Names × (List ℕ × (ℕ × (ℕ × (ℕ × ℕ))))) (coded× (finite.code (coded_list coded_ℕ) (coded_list coded_ℕ)) (coded× (coded_list coded_ℕ) (coded× coded_ℕ (coded× coded_ℕ (coded× coded_ℕ coded_ℕ)))))
    (λ f. (f.names, (f.failing, (f.loads, (f.faults, (f.misses, f.overs))))))
    (λ p. record { names = p.0; failing = p.1.0; loads = p.1.1.0; faults = p.1.1.1.0; misses = p.1.1.1.1.0; overs = p.1.1.1.1.1 })
    (λ _. refl)

-- Rule. Document 01, Recovery: "3. Blobs." It judges by the items fs found as it begins. Assumes nothing.
use mathlib.Core.List.{List, ◌++◌, map, flat_map}
use Rattle.flash.specs.Step.{Step}
use Rattle.lists.specs.Lists.{keep, ascending}
use Rattle.found.specs.Found.{Found, is_index, is_part, version_of, group_of}
use Rattle.versions.specs.Versions.{judge, older}

-- "Versions are taken in ascending (namespace, start, key), the older-of-two after all others in ascending (namespace, key)"
unfoldable pub blob_steps : List Found → List Step
blob_steps fs =
    flat_map (judge fs) (ascending (map (λ (x : Found). version_of x.raw) (keep (λ (x : Found). is_part x.raw) fs)))
    ++ flat_map (older fs) (ascending (map (λ (x : Found). group_of x.raw) (keep (λ (x : Found). is_index x.raw) fs)))

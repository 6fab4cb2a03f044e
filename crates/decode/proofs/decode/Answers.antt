-- `decode::decode` meets its contract: each arm has the number of the function whose row it computes, and the last arm none of them.
-- Assumes nothing.
use mathlib.Core.Path.{refl}
use Rattle.function_ids.specs.declared.FunctionId.TheVariants as id
use Rattle.decode_definition.proofs.Laws.{unknown_is}
use Rattle.decode_definition.proofs.Rows.{decoded}
use Rattle.decode.proofs.decode.Goals as goal

pub returns-in-2214592512 : goal.returns-in-2214592512
returns-in-2214592512 g c = decoded g.S.StateFormat.read id.PsciVersion _ _ c.number_in-number.ensures c.in-2214592512.is _ refl

pub returns-in-2214592513 : goal.returns-in-2214592513
returns-in-2214592513 g c = decoded g.S.StateFormat.read id.CpuSuspend32 _ _ c.number_in-number.ensures c.in-2214592513.is _ (simp (c.cpu_suspend.ensures, c.entry32.ensures, c.from_word.ensures))

pub returns-in-3288334337 : goal.returns-in-3288334337
returns-in-3288334337 g c = decoded g.S.StateFormat.read id.CpuSuspend64 _ _ c.number_in-number.ensures c.in-3288334337.is _ (simp (c.cpu_suspend-in-3288334337.ensures, c.entry64.ensures, c.from_word-in-3288334337.ensures))

pub returns-in-2214592514 : goal.returns-in-2214592514
returns-in-2214592514 g c = decoded g.S.StateFormat.read id.CpuOff _ _ c.number_in-number.ensures c.in-2214592514.is _ refl

pub returns-in-2214592515 : goal.returns-in-2214592515
returns-in-2214592515 g c = decoded g.S.StateFormat.read id.CpuOn32 _ _ c.number_in-number.ensures c.in-2214592515.is _ (simp (c.cpu_on.ensures, c.entry32-in-2214592515.ensures, c.try_from.ensures))

pub returns-in-3288334339 : goal.returns-in-3288334339
returns-in-3288334339 g c = decoded g.S.StateFormat.read id.CpuOn64 _ _ c.number_in-number.ensures c.in-3288334339.is _ (simp (c.cpu_on-in-3288334339.ensures, c.entry64-in-3288334339.ensures, c.try_from-in-3288334339.ensures))

pub returns-in-2214592516 : goal.returns-in-2214592516
returns-in-2214592516 g c = decoded g.S.StateFormat.read id.AffinityInfo32 _ _ c.number_in-number.ensures c.in-2214592516.is _ (simp (c.affinity_info.ensures, c.try_from-in-2214592516.ensures))

pub returns-in-3288334340 : goal.returns-in-3288334340
returns-in-3288334340 g c = decoded g.S.StateFormat.read id.AffinityInfo64 _ _ c.number_in-number.ensures c.in-3288334340.is _ (simp (c.affinity_info-in-3288334340.ensures, c.try_from-in-3288334340.ensures))

pub returns-in-2214592517 : goal.returns-in-2214592517
returns-in-2214592517 g c = decoded g.S.StateFormat.read id.Migrate32 _ _ c.number_in-number.ensures c.in-2214592517.is _ (simp (c.migrate.ensures, c.try_from-in-2214592517.ensures))

pub returns-in-3288334341 : goal.returns-in-3288334341
returns-in-3288334341 g c = decoded g.S.StateFormat.read id.Migrate64 _ _ c.number_in-number.ensures c.in-3288334341.is _ (simp (c.migrate-in-3288334341.ensures, c.try_from-in-3288334341.ensures))

pub returns-in-2214592518 : goal.returns-in-2214592518
returns-in-2214592518 g c = decoded g.S.StateFormat.read id.MigrateInfoType _ _ c.number_in-number.ensures c.in-2214592518.is _ refl

pub returns-in-2214592519 : goal.returns-in-2214592519
returns-in-2214592519 g c = decoded g.S.StateFormat.read id.MigrateInfoUpCpu32 _ _ c.number_in-number.ensures c.in-2214592519.is _ refl

pub returns-in-3288334343 : goal.returns-in-3288334343
returns-in-3288334343 g c = decoded g.S.StateFormat.read id.MigrateInfoUpCpu64 _ _ c.number_in-number.ensures c.in-3288334343.is _ refl

pub returns-in-2214592520 : goal.returns-in-2214592520
returns-in-2214592520 g c = decoded g.S.StateFormat.read id.SystemOff _ _ c.number_in-number.ensures c.in-2214592520.is _ refl

pub returns-in-2214592521 : goal.returns-in-2214592521
returns-in-2214592521 g c = decoded g.S.StateFormat.read id.SystemReset _ _ c.number_in-number.ensures c.in-2214592521.is _ refl

pub returns-in-2214592522 : goal.returns-in-2214592522
returns-in-2214592522 g c = decoded g.S.StateFormat.read id.PsciFeatures _ _ c.number_in-number.ensures c.in-2214592522.is _ (simp (c.features.ensures, c.try_from-in-2214592522.ensures))

pub returns-in-2214592523 : goal.returns-in-2214592523
returns-in-2214592523 g c = decoded g.S.StateFormat.read id.CpuFreeze _ _ c.number_in-number.ensures c.in-2214592523.is _ refl

pub returns-in-2214592524 : goal.returns-in-2214592524
returns-in-2214592524 g c = decoded g.S.StateFormat.read id.CpuDefaultSuspend32 _ _ c.number_in-number.ensures c.in-2214592524.is _ (simp c.entry32-in-2214592524.ensures)

pub returns-in-3288334348 : goal.returns-in-3288334348
returns-in-3288334348 g c = decoded g.S.StateFormat.read id.CpuDefaultSuspend64 _ _ c.number_in-number.ensures c.in-3288334348.is _ (simp c.entry64-in-3288334348.ensures)

pub returns-in-2214592525 : goal.returns-in-2214592525
returns-in-2214592525 g c = decoded g.S.StateFormat.read id.NodeHwState32 _ _ c.number_in-number.ensures c.in-2214592525.is _ (simp (c.node_hw_state.ensures, c.try_from-in-2214592525.ensures))

pub returns-in-3288334349 : goal.returns-in-3288334349
returns-in-3288334349 g c = decoded g.S.StateFormat.read id.NodeHwState64 _ _ c.number_in-number.ensures c.in-3288334349.is _ (simp (c.node_hw_state-in-3288334349.ensures, c.try_from-in-3288334349.ensures))

pub returns-in-2214592526 : goal.returns-in-2214592526
returns-in-2214592526 g c = decoded g.S.StateFormat.read id.SystemSuspend32 _ _ c.number_in-number.ensures c.in-2214592526.is _ (simp c.entry32-in-2214592526.ensures)

pub returns-in-3288334350 : goal.returns-in-3288334350
returns-in-3288334350 g c = decoded g.S.StateFormat.read id.SystemSuspend64 _ _ c.number_in-number.ensures c.in-3288334350.is _ (simp c.entry64-in-3288334350.ensures)

pub returns-in-2214592527 : goal.returns-in-2214592527
returns-in-2214592527 g c = decoded g.S.StateFormat.read id.PsciSetSuspendMode _ _ c.number_in-number.ensures c.in-2214592527.is _ (simp (c.set_suspend_mode.ensures, c.try_from-in-2214592527.ensures))

pub returns-in-2214592528 : goal.returns-in-2214592528
returns-in-2214592528 g c = decoded g.S.StateFormat.read id.PsciStatResidency32 _ _ c.number_in-number.ensures c.in-2214592528.is _ (simp (c.stat_residency.ensures, c.from_word-in-2214592528.ensures, c.try_from-in-2214592528.ensures))

pub returns-in-3288334352 : goal.returns-in-3288334352
returns-in-3288334352 g c = decoded g.S.StateFormat.read id.PsciStatResidency64 _ _ c.number_in-number.ensures c.in-3288334352.is _ (simp (c.stat_residency-in-3288334352.ensures, c.from_word-in-3288334352.ensures, c.try_from-in-3288334352.ensures))

pub returns-in-2214592529 : goal.returns-in-2214592529
returns-in-2214592529 g c = decoded g.S.StateFormat.read id.PsciStatCount32 _ _ c.number_in-number.ensures c.in-2214592529.is _ (simp (c.stat_count.ensures, c.from_word-in-2214592529.ensures, c.try_from-in-2214592529.ensures))

pub returns-in-3288334353 : goal.returns-in-3288334353
returns-in-3288334353 g c = decoded g.S.StateFormat.read id.PsciStatCount64 _ _ c.number_in-number.ensures c.in-3288334353.is _ (simp (c.stat_count-in-3288334353.ensures, c.from_word-in-3288334353.ensures, c.try_from-in-3288334353.ensures))

pub returns-in-2214592530 : goal.returns-in-2214592530
returns-in-2214592530 g c = decoded g.S.StateFormat.read id.SystemReset232 _ _ c.number_in-number.ensures c.in-2214592530.is _ (simp (c.system_reset2.ensures, c.try_from-in-2214592530.ensures))

pub returns-in-3288334354 : goal.returns-in-3288334354
returns-in-3288334354 g c = decoded g.S.StateFormat.read id.SystemReset264 _ _ c.number_in-number.ensures c.in-3288334354.is _ (simp (c.system_reset2-in-3288334354.ensures, c.try_from-in-3288334354.ensures))

pub returns-in-2214592531 : goal.returns-in-2214592531
returns-in-2214592531 g c = decoded g.S.StateFormat.read id.MemProtect _ _ c.number_in-number.ensures c.in-2214592531.is _ refl

pub returns-in-2214592532 : goal.returns-in-2214592532
returns-in-2214592532 g c = decoded g.S.StateFormat.read id.MemProtectCheckRange32 _ _ c.number_in-number.ensures c.in-2214592532.is _ refl

pub returns-in-3288334356 : goal.returns-in-3288334356
returns-in-3288334356 g c = decoded g.S.StateFormat.read id.MemProtectCheckRange64 _ _ c.number_in-number.ensures c.in-3288334356.is _ refl

pub returns-in-2214592533 : goal.returns-in-2214592533
returns-in-2214592533 g c = decoded g.S.StateFormat.read id.SystemOff232 _ _ c.number_in-number.ensures c.in-2214592533.is _ (simp (c.system_off2.ensures, c.try_from-in-2214592533.ensures))

pub returns-in-3288334357 : goal.returns-in-3288334357
returns-in-3288334357 g c = decoded g.S.StateFormat.read id.SystemOff264 _ _ c.number_in-number.ensures c.in-3288334357.is _ (simp (c.system_off2-in-3288334357.ensures, c.try_from-in-3288334357.ensures))

pub returns-in_default : goal.returns-in_default
returns-in_default g c = unknown_is g.S.StateFormat.read _ _ c.number_in-number.ensures c.in_default.in_default-own.rest

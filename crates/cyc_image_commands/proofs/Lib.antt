mod Describing

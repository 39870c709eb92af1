mod Sizing
